use Rattle.std.proofs.Common.{ℕ, ◌<◌}
use Rattle.pop_stacks.specs.Faults.{IsEmptyRow}
use Rattle.pop_stacks.proofs.row_faults.first_empty.Given as goal

-- no row up to here is empty
abbrev pub invariant-loop-v : goal.invariant-loop-v
invariant-loop-v l = (w : ℕ) → w < l.v → IsEmptyRow l.rows w → ⊥
