use Rattle.std.proofs.Common.{take}
use Rattle.confluence_core.specs.WorkList.{Gains}
use Rattle.confluence_core.proofs.work_list.WorkList.add_all.Given as goal

-- the units before here are gained
abbrev pub invariant-loop-unit : goal.invariant-loop-unit
invariant-loop-unit l = Gains l.fn.self l.self (take l.unit-index l.units)
