use Rattle.std.proofs.Common.{◌≡◌, ℕ, true, Some, sym, ap, subst, ◌∙◌}
use Rattle.std.proofs.lemmas.Result.{IfOk-weaker}
use Rattle.pop_model.specs.Stacks.{IsKeyed}
use Rattle.pop_model.specs.Extremal.{IsExtremal}
use Rattle.pop_model.specs.Instances.{Instance}
use Rattle.pop_words.specs.declared.job.Job.{Job}
use Rattle.told_runs.specs.declared.asked.Asked.{Asked}
use Rattle.told_runs.specs.Asking.{asked_by}
use Rattle.top_call.specs.Answers.{origin_for, IsAsked}
use Rattle.top_call.proofs.BatchWords.{is_batched, batched_ordered, batched_no_rounds, counted_command, counted_keyed}
use Rattle.top_call.proofs.Lifting.{ordered_by}
use Rattle.top_call.proofs.MadeComes.{batch_ends_as, rounds_end_as, ends_as, pairs_of}
use Rattle.top_call.proofs.sampling.sample_made.Goals as goal

-- a number of samples is asked for beside a key, and of a command whose pops have one order
batched : (job : Job) → IsAsked job → (asked : Asked) → asked ≡ asked_by job → (count : ℕ) → asked.count ≡ Some count
    → IsKeyed (origin_for job) × (is_batched job.command ≡ true)
batched job (words, asks) asked same count is =
    let own : job.count ≡ Some count = sym (ap (λ (a : Asked). a.count) same) ∙ is in
    (counted_keyed words job asks count own, counted_command words job asks count own)

-- what is made is that of a formula, of which rounds are made and told
pub round_and_tell-requires-clause-pairs : goal.round_and_tell-requires-clause-pairs
round_and_tell-requires-clause-pairs g c =
    let formula = c.requires.formula c.in-Rounds.is in
    pairs_of c.args.facts.now c.args.growing formula.0 formula.1 c.requires.told

pub returns-in-Rounds : goal.returns-in-Rounds
returns-in-Rounds g c =
    let formula = c.requires.formula c.in-Rounds.is in
    rounds_end_as c.args.job.now _ c.args.facts.now c.args.growing formula.0 c.round_and_tell.result c.in-Rounds.is
    formula.1 c.requires.told c.round_and_tell.ensures

-- so many samples are run and told
pub batch_and_tell-requires-clause-keyed : goal.batch_and_tell-requires-clause-keyed
batch_and_tell-requires-clause-keyed g c =
    subst IsKeyed (sym c.requires.origin)
    (batched c.args.job.now c.requires.asked c.of-asked.result c.of-asked.ensures c.in-Some.count c.in-Some.is).0

pub batch_and_tell-requires-clause-extremal : goal.batch_and_tell-requires-clause-extremal
batch_and_tell-requires-clause-extremal g c =
    let k = c.args.job.now.command in
    let of = (batched c.args.job.now c.requires.asked c.of-asked.result c.of-asked.ensures c.in-Some.count
    c.in-Some.is).1 in
    c.requires.extremal (batched_ordered k of) (batched_no_rounds k of)

pub returns-in-Some : goal.returns-in-Some
returns-in-Some g c =
    let k = c.args.job.now.command in
    let of = (batched c.args.job.now c.requires.asked c.of-asked.result c.of-asked.ensures c.in-Some.count
    c.in-Some.is).1 in
    batch_ends_as c.args.job.now _ c.args.facts.now c.args.growing c.of-asked.result c.batch_and_tell.result
    (batched_ordered k of) (batched_no_rounds k of) c.of-asked.ensures
    (IfOk-weaker c.batch_and_tell.result _ _ (λ a told. told _) c.batch_and_tell.ensures)

-- or one is, of the instance at its last height
pub returns : goal.returns
returns g c =
    let same = c.in_ok-run.ensures.instance in
    rw same at (ends_as c.args.job.now _ c.args.facts.now _ c.of-asked.result c.tell_sampled.result
    c.in_default.not-Rounds c.of-asked.ensures
    (λ free. c.tell_sampled.ensures.ended free c.in_default-count.is
    (subst (λ (i : Instance). IsExtremal i.family) (sym same)
    (c.requires.extremal (ordered_by c.args.job.now c.of-asked.result c.of-asked.ensures free) c.in_default.not-Rounds)))
    c.tell_sampled.ensures.history)
