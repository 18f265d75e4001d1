use Rattle.std.proofs.Common.{take}
use Rattle.pop_watch.proofs.LayerSteps.{ArePut}
use Rattle.pop_watch.proofs.layers.put_layer.Given as goal

-- the layer is put at the variables so far
abbrev pub invariant-loop-i : goal.invariant-loop-i
invariant-loop-i l = ArePut l.fn.places l.places (take l.i l.cube) l.layer
