use Rattle.std.proofs.Common.{sym, subst}
use Rattle.pop_workers.specs.Serving.{Serves}
use Rattle.pop_workers.proofs.Serving.{serves_itself}
use Rattle.run_makers.proofs.Brought.{brought}
use Rattle.top_call.proofs.with_lock.fn.run_with.finish.Goals as goal

-- they were made for the instance
pub run-requires-clause-serves : goal.run-requires-clause-serves
run-requires-clause-serves g c κs within =
    subst (Serves c.args.stretch.instance.now) (sym c.in_ok-makers.ensures) (serves_itself c.args.stretch.instance.now)

pub returns : goal.returns
returns g c = brought c.args.stretch.instance.now c.args.stretch.reached c.run.result c.run.ensures.on c.run.ensures.run
