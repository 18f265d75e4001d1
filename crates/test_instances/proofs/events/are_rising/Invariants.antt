use Rattle.std.proofs.Common.{ℕ, ◌<◌, ◌+◌, [], get_or}
use Rattle.test_instances.proofs.events.are_rising.Given as goal

-- the numbers up to here rise
abbrev pub invariant-loop-i : goal.invariant-loop-i
invariant-loop-i l = (k : ℕ) → k + 1 < l.i → (get_or l.rows k (0, [])).0 < (get_or l.rows (k + 1) (0, [])).0
