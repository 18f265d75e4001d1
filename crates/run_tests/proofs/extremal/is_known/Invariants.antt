use Rattle.std.proofs.Common.{◌<◌, All, take}
use Rattle.run_tests.proofs.extremal.is_known.Given as goal

abbrev pub invariant-loop-i : goal.invariant-loop-i
invariant-loop-i l = All (λ p. p.0 < 10) (take l.i l.cube)
