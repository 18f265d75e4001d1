-- Events that clash.
use Rattle.std.specs.Prelude.{◌≢◌, ℕ, ◌<◌, List, length, Contains}
use Rattle.pop_model.specs.Popping.{Cube}
use Rattle.pop_model.specs.Extremal.{Share, Exclude}
use Rattle.pop_instance.specs.Events.{cube_at}

-- two cubes share a variable, and demand the same value of every variable that they share
pub record Clash (e f : Cube) : Type 0 where
  pub share : Share e f
  pub agree : Exclude e f → ⊥

-- the events with these numbers clash, with the lower number first
pub record AreClashing (rows : List (ℕ × Cube)) (number other : ℕ) : Type 0 where
  pub rising : number < other
  pub events : (e : Cube) × (f : Cube)
      × Contains rows (number, e) × Contains rows (other, f) × Clash e f

-- the events at these places clash, the earlier place first
pub record ClashAt (rows : List (ℕ × Cube)) (i j : ℕ) : Type 0 where
  pub rising : i < j
  pub within : j < length rows
  pub clash : Clash (cube_at rows i) (cube_at rows j)

-- no later event clashes with the event at this place
abbrev pub HasNoClash : List (ℕ × Cube) → ℕ → Type 0
HasNoClash rows i = (j : ℕ) → ClashAt rows i j → ⊥

-- the cube demands another value of the pair's variable than the pair
abbrev pub DemandsOther : Cube → ℕ × ℕ → Type 0
DemandsOther e p = (y : ℕ) × Contains e (p.0, y) × (p.1 ≢ y)
