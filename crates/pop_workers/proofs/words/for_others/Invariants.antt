use Rattle.std.proofs.Common.{◌≡◌, ◌≤◌, length, vec_capacity}
use Rattle.pop_workers.proofs.words.for_others.Given as goal

-- each deque up to now can be stolen from, and there is room for all
abbrev pub invariant-loop-own : goal.invariant-loop-own
invariant-loop-own g l = (length l.all.items ≡ l.own-index) × (length l.deques ≤ vec_capacity l.all)
