use Rattle.std.proofs.Common.{ℕ, ◌<◌, slice_index}
use Rattle.graph_read.proofs.ends.first_zero.Given as goal

-- no number up to here is 0
abbrev pub invariant-loop-k : goal.invariant-loop-k
invariant-loop-k l = (k : ℕ) → k < l.k → 0 < slice_index l.numbers k
