use Rattle.std.proofs.Common.{IfOk, subst}
use Rattle.run_makers.specs.Makers.{IsBroughtOn}
use Rattle.run_makers.proofs.Brought.{brought}
use Rattle.run_makers.proofs.alone.finish_alone.Goals as goal

-- the run that is brought to its end is that of the instance
pub returns : goal.returns
returns c =
    subst (λ i. IfOk c.run.result (IsBroughtOn i c.args.stretch.reached)) c.of.ensures
    (brought c.of.result c.args.stretch.reached c.run.result c.run.ensures.on c.run.ensures.run)
