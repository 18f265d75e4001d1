use Rattle.pop_print.proofs.TreePlaces.{PlacedBelow}
use Rattle.pop_print.proofs.tree.places_of.Given as goal

-- the vertices of the variables before here have their places
abbrev pub invariant-loop-v : goal.invariant-loop-v
invariant-loop-v l = PlacedBelow l.vertices l.root l.v l.values l.places.items
