use Rattle.std.proofs.Common.{sym, subst}
use Rattle.std.proofs.lemmas.Result.{IfOk-weaker}
use Rattle.pop_workers.specs.Serving.{Serves}
use Rattle.confluence_core.specs.declared.run.Run.{Run}
use Rattle.pop_workers.proofs.Serving.{serves_itself}
use Rattle.pop_workers.specs.Stages.{IsLast}
use Rattle.pop_workers.proofs.StageTurns.{run_at_last, stages_told}
use Rattle.pop_workers.proofs.growing.sample_in_stages.Goals as goal

pub all_stages-requires-clause-serves : goal.all_stages-requires-clause-serves
all_stages-requires-clause-serves g c κs within =
    subst (Serves c.args.instance.now) (sym c.in_ok-makers.ensures) (serves_itself c.args.instance.now)

pub tell-requires-clause-serves : goal.tell-requires-clause-serves
tell-requires-clause-serves g c = c.all_stages.ensures.serves

pub tell-requires-clause-can : goal.tell-requires-clause-can
tell-requires-clause-can g c = c.in-Ok.ensures.made.reached.can

pub tell-requires-clause-stuck : goal.tell-requires-clause-stuck
tell-requires-clause-stuck g c = c.in-Ok.ensures.made.end.stuck_list

pub returns-clause-run : goal.returns-clause-run
returns-clause-run g c =
    IfOk-weaker c.tell.result _ _ (λ (run : Run) told. run_at_last _ _ _ c.requires.keyed _ c.all_stages.ensures.grown _ _
    c.in-Ok.ensures.made run c.units-units.ensures.instance told.0 c.in-Ok.ensures.last) c.tell.ensures

pub returns-clause-stages : goal.returns-clause-stages
returns-clause-stages g c =
    IfOk-weaker c.tell.result _ _ (λ (run : Run) told. stages_told _ _ _ c.requires.keyed _ c.all_stages.ensures.grown _ _
    c.in-Ok.ensures.made run told.0 told.1) c.tell.ensures

pub returns-clause-last : goal.returns-clause-last
returns-clause-last g c =
    IfOk-weaker c.tell.result _ _
    (λ (run : Run) told. subst (IsLast c.args.last c.all_stages.new.instance) (sym told.1) c.in-Ok.ensures.last)
    c.tell.ensures
