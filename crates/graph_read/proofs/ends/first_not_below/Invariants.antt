use Rattle.std.proofs.Common.{ℕ, ◌<◌, slice_index}
use Rattle.graph_read.proofs.ends.first_not_below.Given as goal

-- each number up to here is below the limit
abbrev pub invariant-loop-k : goal.invariant-loop-k
invariant-loop-k l = (k : ℕ) → k < l.k → slice_index l.numbers k < l.limit
