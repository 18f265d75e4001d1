use Rattle.std.proofs.Common.{take}
use Rattle.pop_model.specs.Popping.{HasNext}
use Rattle.pop_instance.proofs.cursors.has_next_at.Given as goal

-- the variables up to here have a next entry
abbrev pub invariant-loop-i : goal.invariant-loop-i
invariant-loop-i l = HasNext l.stacks l.entries (take l.i l.cube)
