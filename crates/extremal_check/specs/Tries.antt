-- The state of the search for an event that clashes with the event at place i. Each event has a
-- stamp, which is i + 1 after it was tried with that event.
use Rattle.std.specs.Prelude.{◌≡◌, ℕ, ◌+◌, ◌<◌, ◌≤◌, List, length, slice_index, Contains}
use Rattle.pop_model.specs.Popping.{Cube}
use Rattle.pop_model.specs.Extremal.{Share}
use Rattle.pop_instance.specs.Events.{cube_at}
use Rattle.extremal_check.specs.Clashes.{ClashAt}

-- these are places of later events that share a variable with the event at place i
abbrev pub AreLaterSharing : List (ℕ × Cube) → ℕ → List ℕ → Type 0
AreLaterSharing rows i places = (j : ℕ) → Contains places j
    → (i < j) × (j < length rows) × Share (cube_at rows i) (cube_at rows j)

-- each event has a stamp of at most this
pub record AreStamped (rows : List (ℕ × Cube)) (most : ℕ) (stamps : List ℕ) : Type 0 where
  pub count : length stamps ≡ length rows
  pub stamp : (j : ℕ) → slice_index stamps j ≤ most

-- Of the events that were tried with the event at place i, the first that clashes with it is at
-- the place `least`. If none does, `least` is the number of events.
pub record IsLeastTried (rows : List (ℕ × Cube)) (i : ℕ) (stamps : List ℕ) (least : ℕ)
    : Type 0 where
  pub stamped : AreStamped rows (i + 1) stamps
  pub within : least ≤ length rows
  pub clash : least < length rows → ClashAt rows i least
  pub none_below : (j : ℕ) → slice_index stamps j ≡ i + 1 → ClashAt rows i j → least ≤ j
