-- The places of the events of vertices, by how they are stored.
use Rattle.std.specs.Prelude.{ℕ, List, ◌∷◌, map, Option, Some, None}
use Rattle.std.specs.List.{range_with_len}
use Rattle.sink_popping.specs.declared.places.KeptPlaces.{KeptPlaces}
use Rattle.sink_popping.specs.declared.places.KeptPlaces.TheVariants.{Each, Listed}

-- for each vertex the place of its event; vertices count from 1, so the first item is unused
abbrev pub places_kept : KeptPlaces → List (Option ℕ)
places_kept (Each vertices) = None ∷ map (λ place. Some place) (range_with_len 0 vertices)
places_kept (Listed places) = places.items
