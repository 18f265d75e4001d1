use Rattle.std.proofs.Common.{◌≡◌, map, take}
use Rattle.sink_popping.specs.KeptPlaces.{places_kept}
use Rattle.sink_popping.specs.SinkPlaces.{places_at}
use Rattle.sink_popping.proofs.index.sink_index.Given as goal

-- the rows of the edges before here
abbrev pub invariant-loop-i : goal.invariant-loop-i
invariant-loop-i l = l.rows ≡ map (places_at (places_kept l.places-inside.kept)) (take l.i l.graph.edges)
