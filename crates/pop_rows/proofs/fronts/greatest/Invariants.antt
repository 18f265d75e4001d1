use Rattle.std.proofs.Common.{ℕ, ◌<◌, ◌≤◌, slice_index}
use Rattle.pop_rows.proofs.fronts.greatest.Given as goal

-- no number up to here is greater
abbrev pub invariant-loop-n : goal.invariant-loop-n
invariant-loop-n l = (k : ℕ) → k < l.n-index → slice_index l.numbers k ≤ l.most
