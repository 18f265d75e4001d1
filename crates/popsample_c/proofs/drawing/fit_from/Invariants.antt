use Rattle.std.proofs.Common.{ℕ, ◌<◌, slice_index}
use Rattle.popsample_c.proofs.drawing.fit_from.Given as goal

-- those before here are below the height
abbrev pub invariant-loop-k : goal.invariant-loop-k
invariant-loop-k l = (m : ℕ) → m < l.k → slice_index l.from m < l.height
