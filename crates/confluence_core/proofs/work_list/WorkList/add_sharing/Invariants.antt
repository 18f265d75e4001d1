use Rattle.std.proofs.Common.{take}
use Rattle.confluence_core.specs.WorkList.{GainsSharing}
use Rattle.confluence_core.proofs.work_list.WorkList.add_sharing.Given as goal

-- the units of the pairs before here are gained
abbrev pub invariant-loop-i : goal.invariant-loop-i
invariant-loop-i l = GainsSharing l.fn.self l.self l.index (take l.i l.cube)
