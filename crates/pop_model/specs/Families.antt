-- Families of events.
use Rattle.std.specs.Prelude.{◌≡◌, ◌≢◌, ℕ, List, length, map, slice_get, All, AllPairs, Option, Some}
use Rattle.std.specs.List.Sorted.{IsStrictlyIncreasing}
use Rattle.pop_model.specs.Popping.{Cube, IsCube}
use Rattle.pop_model.specs.Cycles.{IsCycle, AreArrows, first_of}

-- an event: values demanded of some variables, with a unit that identifies it (Moser and Tardos
-- 2010)
pub record Event : Type 0 where
  pub unit : ℕ
  pub cube : Cube

-- the bad events: listed ones, or the cycles of arrows
pub data Family : Type 0 where
  -- cubes under their numbers
  Listed : (rows : List (ℕ × Cube)) → Family
  -- the cycles of the arrows: for each variable the heads of its slots; None is the root
  Cycles : (heads : List (List (Option ℕ))) → Family

-- the family has this event: a listed one under its place, a cycle under its lowest variable
abbrev pub IsEvent : Family → Event → Type 0
IsEvent (Listed rows) e = (number : ℕ) × (slice_get rows e.unit ≡ Some (number, e.cube))
IsEvent (Cycles heads) e = IsCycle heads e.cube × (e.unit ≡ first_of e.cube)

-- the number of units: the number of places or of variables
abbrev pub units_of : Family → ℕ
units_of (Listed rows) = length rows
units_of (Cycles heads) = length heads

-- rising numbers, and different cubes
pub record AreEvents (rows : List (ℕ × Cube)) : Type 0 where
  pub rising : IsStrictlyIncreasing (map (λ r. r.0) rows)
  pub different : AllPairs (λ r q. r.1 ≢ q.1) rows
  pub cubes : All (λ r. IsCube r.1) rows

-- what holds of every family
abbrev pub IsFamily : Family → Type 0
IsFamily (Listed rows) = AreEvents rows
IsFamily (Cycles heads) = AreArrows heads
