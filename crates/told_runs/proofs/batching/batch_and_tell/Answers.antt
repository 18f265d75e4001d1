use Rattle.std.proofs.Common.{List, IfOk, refl, subst}
use Rattle.std.proofs.lemmas.Result.{IfOk-weaker}
use Rattle.pop_model.specs.Instances.{Instance}
use Rattle.pop_watch.specs.Telling.{Watcher}
use Rattle.told_runs.specs.Ends.{IsEndOf}
use Rattle.told_runs.specs.Outcomes.{AnswersBy}
use Rattle.told_runs.specs.Outcomes.Outcome.{Batched}
use Rattle.told_runs.proofs.batching.batch_and_tell.Goals as goal

-- the ends are those of as many samples as are asked for
pub returns : goal.returns
returns g c =
    let facts = c.args.facts.now in
    let i : Instance = c.raised-instance.result in
    subst (λ (j : Instance). IfOk c.tell_batch-told.result
    (λ a. (ws : List Watcher) → AnswersBy (IsEndOf c.args.asked ws facts j) a.status a.text.items))
    c.raised-instance.ensures
    (IfOk-weaker c.tell_batch-told.result _ _ (λ a told ws. (
      Batched facts i told.0,
      (refl, refl, record { count = c.args.count; asked_is = c.requires.asked; are = told.1 }),
      told.2,
    )) c.tell_batch-told.ensures)
