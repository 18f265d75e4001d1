use Rattle.std.proofs.Common.{◌+◌, slice_index}
use Rattle.pop_stacks.proofs.QuadLemmas.{ArePacked}
use Rattle.pop_stacks.proofs.quad_line.quads.Given as goal

-- the values from behind are side by side
abbrev pub invariant-loop-i : goal.invariant-loop-i
invariant-loop-i g l = ArePacked l.i l.bits (λ j. slice_index l.values (l.at + j))
