use Rattle.std.proofs.Common.{All, take, length}
use Rattle.pop_instance.specs.Arrows.{IsNumberRow}
use Rattle.pop_instance.proofs.arrows.are_head_numbers.Given as goal

-- each row up to here has a slot, and no number that is greater than the count
abbrev pub invariant-loop-v : goal.invariant-loop-v
invariant-loop-v l = All (IsNumberRow (length l.rows)) (take l.v l.rows)
