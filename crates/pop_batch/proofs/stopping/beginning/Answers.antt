use Rattle.std.proofs.Common.{replicate, ap, ◌∙◌}
use Rattle.std.specs.List.{range_with_len}
use Rattle.pop_model.specs.Stacks.{variables_of}
use Rattle.pop_batch.proofs.StoppedRuns.{begun_given, begun_zeros}
use Rattle.pop_batch.proofs.stopping.beginning.Goals.{in-Some, in-None+in_ok-cursors-in-None}
use Rattle.pop_batch.proofs.stopping.beginning.Goals as goal

pub returns-clause-reached : goal.returns-clause-reached
returns-clause-reached c =
    let i = c.args.sample.now in
    let all = c.in_ok-suspects.ensures ∙ ap (range_with_len 0) c.units.ensures.units in
    elim c.match-from-2.branch [
      | in-Some w ↦
          begun_given i c.args.from w.in-Some.cursors c.match-from-2.cursors c.in_ok-suspects.suspects c.at.result
          w.in-Some.is w.cursors-is c.requires.start all c.at.ensures
      | in-None+in_ok-cursors-in-None w ↦
          begun_zeros i c.args.from c.match-from-2.cursors c.in_ok-suspects.suspects c.at.result
          w.stacks.ensures.instance w.in-None.is
          (w.cursors-is ∙ w.in_ok-cursors-in-None.ensures
          ∙ ap (λ n. replicate n 0) (w.count.ensures.count ∙ ap variables_of w.stacks.ensures.stacks))
          all c.at.ensures
    ]
