use Rattle.extremal_check.specs.Tries.{IsLeastTried}
use Rattle.extremal_check.proofs.Trying.{NoneBelow}
use Rattle.extremal_check.proofs.least_clash.least_with.Given as goal

abbrev pub invariant-loop-k : goal.invariant-loop-k
invariant-loop-k l = record {
  tried : IsLeastTried l.events l.i l.stamps l.least;
  none_below : NoneBelow l.events l.index l.i l.least l.k;
}
