use Rattle.std.proofs.lemmas.Result.{IfOk-weaker}
use Rattle.confluence_core.specs.Kept.{keeps_log}
use Rattle.confluence_core.specs.declared.run.Run.{Run}
use Rattle.confluence_core.proofs.Reaching.{gone_run}
use Rattle.pop_workers.proofs.claimed.sample_claimed.Goals as goal

pub tell-requires-clause-can : goal.tell-requires-clause-can
tell-requires-clause-can g c = c.in-Ok-claimed_stage.ensures.on.can

pub tell-requires-clause-stuck : goal.tell-requires-clause-stuck
tell-requires-clause-stuck g c = c.in-Ok-claimed_stage.ensures.end.stuck_list

pub returns : goal.returns
returns g c =
    let staged = c.in-Ok-claimed_stage.ensures in
    IfOk-weaker c.tell.result _ _
    (λ (run : Run) told. gone_run c.args.instance.now c.args.from.now (keeps_log c.args.keep) c.in_ok-opening.opening
    c.in-Ok-claimed_stage.end.0 run c.in_ok-opening.ensures staged.on staged.end.none told.0) c.tell.ensures
