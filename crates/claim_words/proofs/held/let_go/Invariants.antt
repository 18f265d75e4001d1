use Rattle.std.proofs.Common.{◌≢◌, ℕ, ◌<◌, length, get_or}
use Rattle.claim_words.proofs.held.let_go.Given as goal

abbrev pub invariant-loop-at : goal.invariant-loop-at
invariant-loop-at l = (l.at < length l.held.items)
    × ((j : ℕ) → l.at < j → j < length l.held.items → get_or l.held.items j 0 ≢ l.v)

abbrev pub decreases-loop-at : goal.decreases-loop-at
decreases-loop-at l = l.at
