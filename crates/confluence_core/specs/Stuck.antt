-- Events as pairs of a unit and a cube.
use Rattle.std.specs.Prelude.{ℕ, List, map}
use Rattle.pop_model.specs.Popping.{Cube}
use Rattle.pop_model.specs.Families.{Event}

-- the event of a unit and a cube
abbrev pub event_of : ℕ × Cube → Event
event_of p = record { unit = p.0; cube = p.1 }

-- the events of these pairs
abbrev pub events_of : List (ℕ × Cube) → List Event
events_of ps = map event_of ps
