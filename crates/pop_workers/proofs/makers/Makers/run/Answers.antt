use Rattle.std.proofs.lemmas.Result.{IfOk-weaker}
use Rattle.confluence_core.specs.declared.run.Run.{Run}
use Rattle.confluence_core.proofs.Reaching.{gone_run, told_on}
use Rattle.pop_workers.proofs.makers.Makers.run.Goals as goal

pub tell-requires-clause-can : goal.tell-requires-clause-can
tell-requires-clause-can g c = c.in-Ok.ensures.on.can

pub tell-requires-clause-stuck : goal.tell-requires-clause-stuck
tell-requires-clause-stuck g c = c.in-Ok.ensures.end.stuck_list

pub returns-clause-on : goal.returns-clause-on
returns-clause-on g c =
    IfOk-weaker c.tell.result _ _
    (λ (run : Run) told. told_on c.args.instance.now c.args.reached c.in-Ok.end.0 run c.in-Ok.ensures.on
    c.in-Ok.ensures.end.none told.0) c.tell.ensures

pub returns-clause-run : goal.returns-clause-run
returns-clause-run g c start keeps is =
    IfOk-weaker c.tell.result _ _
    (λ (run : Run) told. gone_run c.args.instance.now start keeps c.args.reached c.in-Ok.end.0 run is
    c.in-Ok.ensures.on c.in-Ok.ensures.end.none told.0) c.tell.ensures
