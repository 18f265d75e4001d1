use Rattle.std.proofs.Common.{◌≡◌, take}
use Rattle.pop_watch.proofs.LayerSteps.{greatest_at}
use Rattle.pop_watch.proofs.layers.layer_of.Given as goal

-- the greatest number at the variables so far
abbrev pub invariant-loop-i : goal.invariant-loop-i
invariant-loop-i l = l.greatest ≡ greatest_at l.places (take l.i l.cube)
