use Rattle.std.proofs.Common.{◌≡◌, ℕ, ◌<◌, length, get_or}
use Rattle.pop_stacks.specs.Draws.{AreScaled}
use Rattle.pop_stacks.proofs.drawing_many.scale_all.Given as goal

-- the numbers up to here are scaled
abbrev pub invariant-loop-i : goal.invariant-loop-i
invariant-loop-i g l = record {
  scaled : AreScaled l.total l.words l.at l.i l.numbers;
  below : (k : ℕ) → k < l.i → get_or l.numbers k 0 < l.total;
  size : length l.numbers ≡ g.row.N;
}
