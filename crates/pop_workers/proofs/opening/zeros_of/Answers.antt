use Rattle.std.proofs.Common.{ℕ, List, replicate, length, ap, sym, subst, ◌∙◌}
use Rattle.std.proofs.lemmas.Result.{IfOk-weaker}
use Rattle.pop_model.specs.Stacks.{variables_of}
use Rattle.pop_model.specs.Popping.{AreWithin}
use Rattle.pop_model.proofs.Replays.{start_count, start_within}
use Rattle.pop_workers.proofs.opening.zeros_of.Goals as goal

pub returns-clause-zeros : goal.returns-clause-zeros
returns-clause-zeros c =
    let same = ap (λ n. replicate n 0) (c.count.ensures.count ∙ ap variables_of c.stacks.ensures) in
    IfOk-weaker c.zeros.result _ _ (λ (z : List ℕ) is. is ∙ same) c.zeros.ensures

pub returns-clause-count : goal.returns-clause-count
returns-clause-count c =
    let i = c.args.instance.now in
    let same = ap (λ n. replicate n 0) (c.count.ensures.count ∙ ap variables_of c.stacks.ensures) in
    IfOk-weaker c.zeros.result _ _ (λ (z : List ℕ) is. start_count i ∙ ap length (sym (is ∙ same))) c.zeros.ensures

pub returns-clause-within : goal.returns-clause-within
returns-clause-within c =
    let i = c.args.instance.now in
    let same = ap (λ n. replicate n 0) (c.count.ensures.count ∙ ap variables_of c.stacks.ensures) in
    IfOk-weaker c.zeros.result _ _
    (λ (z : List ℕ) is. subst (AreWithin i.stacks) (sym (is ∙ same)) (start_within i c.units-units.ensures.instance))
    c.zeros.ensures
