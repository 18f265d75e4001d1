use Rattle.std.proofs.Common.{ℕ, ◌<◌, ◌≤◌, nat_abs, pos, get_or}
use Rattle.dimacs_read.proofs.literals.first_beyond.Given as goal

-- each number up to here is 0 or a literal of a variable
abbrev pub invariant-loop-k : goal.invariant-loop-k
invariant-loop-k l = (k : ℕ) → k < l.k → nat_abs (get_or l.literals k (pos 0)) ≤ l.variables
