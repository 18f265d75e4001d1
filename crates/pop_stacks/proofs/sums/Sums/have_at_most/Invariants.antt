use Rattle.std.proofs.Common.{ℕ, ◌<◌, ◌≤◌, length}
use Rattle.pop_model.specs.Stacks.{row_of}
use Rattle.pop_stacks.proofs.sums.Sums.have_at_most.Given as goal

-- no variable up to here has more values
abbrev pub invariant-loop-v : goal.invariant-loop-v
invariant-loop-v l = (u : ℕ) → u < l.v → length (row_of l.self u) ≤ l.values
