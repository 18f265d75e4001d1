use Rattle.std.proofs.Common.{[], subst}
use Rattle.pop_model.specs.Popping.{AreValuesAt}
use Rattle.pop_model.specs.Runs.{start_of}
use Rattle.confluence_core.specs.Kept.{keeps_log}
use Rattle.confluence_core.specs.Stretches.{IsReached}
use Rattle.confluence_core.specs.declared.reached.Reached.{Reached}
use Rattle.confluence_core.proofs.Reaching.{first_end_of}
use Rattle.top_call.proofs.PausedComes.{ended_part}
use Rattle.top_call.proofs.pausing.ended.Goals as goal

pub returns-clause-run : goal.returns-clause-run
returns-clause-run c =
    let i = c.args.instance.now in
    let part = c.args.part in
    let keeps = keeps_log c.args.keep in
    let so_far = c.requires.part in
    let there : Reached = record { cursors = part.cursors; pops = c.len.result; log = c.kept.result; suspects = [] } in
    let reached : IsReached i (start_of i) keeps there =
    ended_part i part keeps c.len.result c.kept.result so_far c.requires.end c.requires.count c.requires.within
    c.len.ensures c.kept.ensures in
    record {
      reached = reached;
      stuck_list = so_far.seen.stuck_list;
      values = subst (λ s. AreValuesAt s part.cursors c.in_ok-values.values) c.stacks-2.ensures c.in_ok-values.ensures.values;
      first = first_end_of i (start_of i) keeps there part.seen.stuck reached c.requires.end so_far.seen.stuck_list;
    }
