use Rattle.std.proofs.Common.{◌≡◌, ◌≤◌, length, vec_capacity}
use Rattle.pop_workers.proofs.words.deal_all.Given as goal

-- each worker up to now has a deque, and there is room for all
abbrev pub invariant-loop-number : goal.invariant-loop-number
invariant-loop-number g l = (length l.deques.items ≡ l.number) × (l.workers ≤ vec_capacity l.deques)
