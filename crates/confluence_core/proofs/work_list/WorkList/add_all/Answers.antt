use Rattle.std.proofs.Common.{arith}
use Rattle.confluence_core.proofs.Marks.{gains_more}
use Rattle.confluence_core.proofs.work_list.WorkList.add_all.Goals as goal

pub loop-unit-preserved : goal.loop-unit-preserved
loop-unit-preserved c =
    gains_more c.args.units.now c.loop-unit.unit-index 0 (omega (arith, c.loop-unit-test.true))
    c.loop-unit.invariant c.in_ok-add.ensures
