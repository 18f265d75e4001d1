-- For each variable the places of the events that name it.
use Rattle.std.specs.Prelude.{◌≡◌, ◌↔◌, ℕ, ◌<◌, true, if◌then◌else◌, List, [], ◌∷◌, ◌++◌, length, filter, slice_index, slice_index_or, All, Contains, Option, Some, None, ⊤}
use Rattle.std.specs.List.{range_with_len}
use Rattle.std.specs.List.Sorted.{IsStrictlyIncreasing}
use Rattle.pop_model.specs.Families.{Family}
use Rattle.pop_model.specs.Families.Family.{Listed, Cycles}
use Rattle.pop_model.specs.Popping.{Cube, NamesBelow, names}
use Rattle.pop_rows.specs.FlatRows.{row_at}
use Rattle.pop_instance.specs.Events.{cube_at}

-- for each variable the places of the events that name it, rising
pub record IsIndex (rows : List (ℕ × Cube)) (index : List (List ℕ)) : Type 0 where
  pub below : All (λ r. NamesBelow r.1 (length index)) rows
  pub rising : (v : ℕ) → v < length index → IsStrictlyIncreasing (slice_index_or index v [])
  pub exact : (v place : ℕ) → v < length index
      → Contains (slice_index_or index v []) place
      ↔ ((place < length rows) × (names (cube_at rows place) v ≡ true))

-- the index of a family: that of its events if they are listed, and none for cycles
abbrev pub IsFamilyIndex : Family → Option (List (List ℕ)) → Type 0
IsFamilyIndex (Listed rows) (Some index) = IsIndex rows index
IsFamilyIndex (Listed rows) None = ⊥
IsFamilyIndex (Cycles heads) (Some index) = ⊥
IsFamilyIndex (Cycles heads) None = ⊤

-- the places below n of the events that name a variable, rising
abbrev pub places_below : List (ℕ × Cube) → ℕ → ℕ → List ℕ
places_below rows n v = filter (λ place. names (cube_at rows place) v) (range_with_len 0 n)

-- for each of this many variables the number of events below place n that name it
pub record AreTallies (rows : List (ℕ × Cube)) (n count : ℕ) (tallies : List ℕ) : Type 0 where
  pub count_is : length tallies ≡ count
  pub each : (v : ℕ) → v < count → slice_index tallies v ≡ length (places_below rows n v)

-- the row of each variable of the cube gets the place at its end, and no other row changes
pub record IsPut (e : Cube) (place : ℕ) (rows new_rows : List (List ℕ)) : Type 0 where
  pub count_is : length new_rows ≡ length rows
  pub each : (v : ℕ) → v < length rows
      → row_at new_rows v ≡ (if names e v then row_at rows v ++ place ∷ [] else row_at rows v)
