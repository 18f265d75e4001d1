use Rattle.std.proofs.Common.{ℕ, ◌<◌, slice_index}
use Rattle.pop_stacks.proofs.row_faults.first_at_least.Given as goal

-- each number up to here is below the limit
abbrev pub invariant-loop-k : goal.invariant-loop-k
invariant-loop-k l = (k : ℕ) → k < l.k → slice_index l.row k < l.limit
