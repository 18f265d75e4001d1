-- The places of the events of vertices among all events.
use Rattle.std.specs.Prelude.{◌≡◌, ◌↔◌, ℕ, ◌<◌, List, ◌++◌, length, slice_index_or, min, max, Option, Some, None}
use Rattle.std.specs.Option.{option_to_list}
use Rattle.pop_model.specs.Popping.{Cube}
use Rattle.pop_instance.specs.Events.{event_number}
use Rattle.graph_read.specs.declared.edge.Edge.{Edge}

-- for each vertex the place of its event, if it is among the first n; vertices count from 1
pub record ArePlaces (rows : List (ℕ × Cube)) (n : ℕ) (places : List (Option ℕ)) : Type 0 where
  pub each : (w place : ℕ) → w < length places
      → (slice_index_or places w None ≡ Some place) ↔ ((place < n) × (event_number rows place ≡ w))

-- the places of the events of an edge's ends, with that of the lower end first
abbrev pub places_at : List (Option ℕ) → Edge → List ℕ
places_at places e =
    option_to_list (slice_index_or places (min e.u e.v) None)
    ++ option_to_list (slice_index_or places (max e.u e.v) None)
