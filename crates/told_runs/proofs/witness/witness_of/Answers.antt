use Rattle.std.proofs.Common.{inl, inr, ◌≡◌, ◌<◌, ◌≤◌, refl, arith, length, ap, ◌∙◌}
use Rattle.std.proofs.lemmas.Option.{slice_get_within}
use Rattle.pop_model.specs.Stacks.{variables_of}
use Rattle.pop_model.specs.Popping.{cursor}
use Rattle.witness_trees.specs.Pops.{naming}
use Rattle.witness_trees.proofs.Counting.{legal_log_counts, cursor_counts}
use Rattle.told_runs.proofs.WitnessResults.{told_missing, told_tree}
use Rattle.told_runs.proofs.witness.witness_of.Goals as goal

-- no variable has the name
pub returns-in_default : goal.returns-in_default
returns-in_default c =
    let known : c.count.result ≡ variables_of c.args.instance.now.stacks =
    c.count.ensures.count ∙ ap variables_of c.stacks.ensures in
    told_missing c.args.names.now c.args.instance.now.family c.args.asked c.args.cursors.now c.args.log.now 0
    c.tell_missing.result
    (inr (λ v below named. c.in_default.ensures v (omega (arith, known, c.requires.count, below)) named, refl))
    (omega arith) c.tell_missing.ensures.missing c.tell_missing.ensures.text

pub find_pop-requires : goal.find_pop-requires
find_pop-requires c =
    let known : c.count.result ≡ variables_of c.args.instance.now.stacks =
    c.count.ensures.count ∙ ap variables_of c.stacks.ensures in
    let v = c.in-Some.ensures in
    legal_log_counts c.args.instance.now c.args.log.now c.requires.legal c.in-Some.v (omega (arith, known, v.0))

pub tell_tree-requires-clause-within : goal.tell_tree-requires-clause-within
tell_tree-requires-clause-within c =
    let (r, at, used) = c.in-Some-find_pop.ensures in
    slice_get_within c.args.log.now c.in-Some-find_pop.t r at

-- the cursor counts the records that name the variable
pub returns-in-None : goal.returns-in-None
returns-in-None c =
    let known : c.count.result ≡ variables_of c.args.instance.now.stacks =
    c.count.ensures.count ∙ ap variables_of c.stacks.ensures in
    let v = c.in-Some.ensures in
    let below : c.in-Some.v < length c.args.cursors.now = omega (arith, known, c.requires.count, v.0) in
    let there : cursor c.args.cursors.now c.in-Some.v ≡ length (naming c.args.log.now c.in-Some.v) =
    ap (λ l. cursor l c.in-Some.v) c.requires.leads
    ∙ cursor_counts c.args.instance.now c.args.log.now c.in-Some.v (omega (arith, known, v.0)) in
    let most = c.in-None.ensures in
    let past : c.get.result ≤ c.args.asked.1 = omega (arith, there, most, c.get.ensures) in
    told_missing c.args.names.now c.args.instance.now.family c.args.asked c.args.cursors.now c.args.log.now
    c.get.result c.tell_missing-in-None.result (inl (c.in-Some.v, below, v.1, c.get.ensures)) past
    c.tell_missing-in-None.ensures.missing c.tell_missing-in-None.ensures.text

pub returns-in-Some-find_pop : goal.returns-in-Some-find_pop
returns-in-Some-find_pop c =
    let known : c.count.result ≡ variables_of c.args.instance.now.stacks =
    c.count.ensures.count ∙ ap variables_of c.stacks.ensures in
    let v = c.in-Some.ensures in
    let below : c.in-Some.v < length c.args.cursors.now = omega (arith, known, c.requires.count, v.0) in
    let (r, at, used) = c.in-Some-find_pop.ensures in
    told_tree c.args.names.now c.args.instance.now.family c.args.asked c.args.cursors.now c.args.log.now c.in-Some.v
    c.in-Some-find_pop.t r c.tell_tree.result below v.1 at used c.tell_tree.ensures.there c.tell_tree.ensures.tree
