use Rattle.std.proofs.Common.{ℕ, ◌<◌, ◌≤◌, slice_index}
use Rattle.pop_rows.proofs.fronts.first_above.Given as goal

-- no number up to here is above the limit
abbrev pub invariant-loop-v : goal.invariant-loop-v
invariant-loop-v l = (w : ℕ) → w < l.v → slice_index l.numbers w ≤ l.limit
