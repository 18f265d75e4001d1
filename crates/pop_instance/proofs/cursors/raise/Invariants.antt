use Rattle.std.proofs.Common.{◌≡◌, take}
use Rattle.pop_model.specs.Popping.{pop}
use Rattle.pop_instance.proofs.cursors.raise.Given as goal

-- the pairs up to here are popped
abbrev pub invariant-loop-i : goal.invariant-loop-i
invariant-loop-i l = l.entries ≡ pop l.fn.entries (take l.i l.cube)
