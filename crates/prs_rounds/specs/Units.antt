-- Events by their units.
use Rattle.std.specs.Prelude.{◌≡◌, ◌↔◌, ℕ, List, Contains, ⊤}
use Rattle.std.specs.List.Sorted.{IsStrictlyIncreasing}
use Rattle.pop_instance.specs.Index.{IsIndex}
use Rattle.pop_model.specs.Families.{Event, Family}
use Rattle.pop_model.specs.Families.Family.{Listed, Cycles}

-- the family lists its events
abbrev pub IsListed : Family → Type 0
IsListed (Listed rows) = ⊤
IsListed (Cycles heads) = ⊥

-- the units of the events with this property, rising
pub record AreUnitsOf (Is : Event → Type 0) (units : List ℕ) : Type 0 where
  pub rising : IsStrictlyIncreasing units
  pub exact : (u : ℕ) → Contains units u ↔ ((e : Event) × (e.unit ≡ u) × Is e)

-- the family lists its events, and this is an index of them
abbrev pub IsIndexOf : Family → List (List ℕ) → Type 0
IsIndexOf (Listed rows) index = IsIndex rows index
IsIndexOf (Cycles heads) index = ⊥
