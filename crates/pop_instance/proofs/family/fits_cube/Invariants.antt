use Rattle.std.proofs.Common.{take}
use Rattle.pop_model.specs.Instances.{FitsStacks}
use Rattle.pop_instance.proofs.family.fits_cube.Given as goal

-- the pairs up to here fit
abbrev pub invariant-loop-i : goal.invariant-loop-i
invariant-loop-i l = FitsStacks l.stacks (take l.i l.cube)
