use Rattle.std.proofs.Common.{◌≡◌, ℕ, ◌<◌, length, get_or}
use Rattle.pop_stacks.proofs.drawing_many.narrow.Given as goal

-- the values up to here are the numbers
abbrev pub invariant-loop-i : goal.invariant-loop-i
invariant-loop-i g l = record {
  same : (k : ℕ) → k < l.i → get_or l.values k 0 ≡ get_or l.numbers k 0;
  size : length l.values ≡ g.row.N;
}
