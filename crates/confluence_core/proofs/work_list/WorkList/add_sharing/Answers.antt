use Rattle.std.proofs.Common.{subst}
use Rattle.confluence_core.specs.WorkList.{Gains}
use Rattle.confluence_core.proofs.Marks.{gains_sharing_more}
use Rattle.confluence_core.proofs.work_list.WorkList.add_sharing.Goals as goal

pub loop-i-preserved : goal.loop-i-preserved
loop-i-preserved c =
    gains_sharing_more c.args.self.now c.loop-i.self c.add_all.new.self c.args.index.now c.args.cube.now
    c.loop-i.i c.pair-v.result c.pair-v.ensures
    c.loop-i.invariant (subst (Gains c.loop-i.self c.add_all.new.self) c.at.ensures c.in_ok-add_all.ensures)
