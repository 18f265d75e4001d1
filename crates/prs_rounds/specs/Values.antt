-- The current value of each variable, and which cubes occur with these values.
use Rattle.std.specs.Prelude.{◌≡◌, ◌==◌, ℕ, ◌+◌, ◌<◌, Bool, List, [], length, filter, slice_index}
use Rattle.std.specs.List.{list_all, range_with_len}
use Rattle.pop_model.specs.Stacks.{StackTable}
use Rattle.pop_model.specs.Popping.{Cube, current}
use Rattle.pop_model.specs.Families.{Family}
use Rattle.pop_model.specs.Families.Family.{Listed, Cycles}
use Rattle.pop_instance.specs.Events.{cube_at}

-- the values of all variables
pub record AreValues (s : StackTable) (c values : List ℕ) : Type 0 where
  pub count : length values ≡ length c
  pub each : (v : ℕ) → v < length c → slice_index values v ≡ current s c v

-- these are the values of the variables from a place of their list on
abbrev pub AreRead : StackTable → List ℕ → List ℕ → ℕ → List ℕ → Type 0
AreRead s c variables start values = (k : ℕ) → k < length values
    → slice_index values k ≡ current s c (slice_index variables (start + k))

-- all of these variables are read
pub record AreAllRead (s : StackTable) (c variables values : List ℕ) : Type 0 where
  pub len : length values ≡ length variables
  pub read : AreRead s c variables 0 values

-- each variable of the cube has the value that it demands
abbrev pub shows : List ℕ → Cube → Bool
shows values e = list_all (λ p. slice_index values p.0 == p.1) e

-- the places, among these and in their order, of the events that occur with these values
abbrev pub shown_among : List ℕ → List (ℕ × Cube) → List ℕ → List ℕ
shown_among values rows places = filter (λ u. shows values (cube_at rows u)) places

-- the places of all events that occur with these values, rising
abbrev pub shown_places : List ℕ → List (ℕ × Cube) → List ℕ
shown_places values rows = shown_among values rows (range_with_len 0 (length rows))

-- the units of the listed events that occur with these values, rising
abbrev pub shown_units : List ℕ → Family → List ℕ
shown_units values (Listed rows) = shown_places values rows
shown_units values (Cycles heads) = []
