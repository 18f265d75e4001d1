use Rattle.std.proofs.Common.{get_or}
use Rattle.std.specs.Int.{bit_at}
use Rattle.pop_stacks.proofs.PlaneLemmas.{HasBits}
use Rattle.pop_stacks.proofs.bit_planes.plane.Given as goal

-- the bits up to here are those of the values
abbrev pub invariant-loop-i : goal.invariant-loop-i
invariant-loop-i g l = HasBits l.i l.bits (λ j. bit_at (get_or l.values j 0) l.bit)
