use Rattle.std.proofs.Common.{◌≡◌, take}
use Rattle.pop_instance.specs.ShiftedRows.{shifted}
use Rattle.pop_instance.proofs.shifted_rows.pattern_of.Given as goal

-- the pattern of the numbers up to here
abbrev pub invariant-loop-x : goal.invariant-loop-x
invariant-loop-x l = shifted l.v l.pattern.items ≡ take l.x-index l.row
