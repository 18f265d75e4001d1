use Rattle.std.proofs.Common.{ℕ, ◌<◌}
use Rattle.extremal_check.specs.Clashes.{HasNoClash}
use Rattle.extremal_check.specs.Tries.{AreStamped}
use Rattle.extremal_check.proofs.least_clash.first_clash.Given as goal

abbrev pub invariant-loop-i : goal.invariant-loop-i
invariant-loop-i l = record {
  stamped : AreStamped l.events l.i l.stamps;
  none : (i : ℕ) → i < l.i → HasNoClash l.events i;
}
