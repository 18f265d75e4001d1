use Rattle.std.proofs.Common.{ℕ, ◌<◌}
use Rattle.pop_stacks.specs.Faults.{IsTooLarge}
use Rattle.pop_stacks.proofs.row_faults.first_too_large.Given as goal

-- no entry of a row up to here is too large
abbrev pub invariant-loop-v : goal.invariant-loop-v
invariant-loop-v l = (w k : ℕ) → w < l.v → IsTooLarge l.rows l.weights w k → ⊥
