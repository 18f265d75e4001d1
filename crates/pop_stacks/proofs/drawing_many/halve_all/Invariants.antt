use Rattle.std.proofs.Common.{◌≡◌, length}
use Rattle.pop_stacks.specs.Draws.{AreFirstAbove}
use Rattle.pop_stacks.proofs.drawing_many.halve_all.Given as goal

-- the places up to here are found
abbrev pub invariant-loop-i : goal.invariant-loop-i
invariant-loop-i g l = record {
  found : AreFirstAbove l.sums l.numbers l.i l.places;
  size : length l.places ≡ g.row.N;
}
