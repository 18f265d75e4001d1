use Rattle.std.proofs.Common.{ℕ, ◌<◌, ◌≤◌, slice_index}
use Rattle.extremal_check.specs.Clashes.{ClashAt}
use Rattle.extremal_check.specs.Tries.{IsLeastTried}
use Rattle.extremal_check.proofs.least_clash.least_in_row.Given as goal

abbrev pub invariant-loop-j : goal.invariant-loop-j
invariant-loop-j l = record {
  tried : IsLeastTried l.events l.i l.stamps l.lowest;
  falls : l.lowest ≤ l.least;
  none_below : (k : ℕ) → k < l.j-index → ClashAt l.events l.i (slice_index l.row k) → l.lowest ≤ slice_index l.row k;
}
