use Rattle.std.proofs.Common.{ℕ, ◌<◌, ◌≤◌, ◌-◌, length, get_or}
use Rattle.pop_stacks.proofs.drawing.first_above.Given as goal

-- the least place of a sum above m is one from low to high
abbrev pub invariant-loop-low : goal.invariant-loop-low
invariant-loop-low l = record {
  ordered : l.low ≤ l.high;
  within : l.high < length l.sums;
  above : l.m < get_or l.sums l.high 0;
  below : (k : ℕ) → k < l.low → get_or l.sums k 0 ≤ l.m;
}

abbrev pub decreases-loop-low : goal.decreases-loop-low
decreases-loop-low l = l.high - l.low
