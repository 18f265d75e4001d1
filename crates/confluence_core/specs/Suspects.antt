-- Suspects: units that cover every poppable event.
use Rattle.std.specs.Prelude.{◌≡◌, ℕ, true, List, Contains}
use Rattle.pop_model.specs.Popping.{IsPoppable, names}
use Rattle.pop_model.specs.Families.{Event, Family, IsEvent}
use Rattle.pop_model.specs.Families.Family.{Listed, Cycles}
use Rattle.pop_model.specs.Instances.{Instance}

-- the unit of a listed event is a suspect, or some variable of a cycle is
abbrev pub IsSuspected : Family → List ℕ → Event → Type 0
IsSuspected (Listed rows) suspects e = Contains suspects e.unit
IsSuspected (Cycles heads) suspects e =
    (v : ℕ) × (names e.cube v ≡ true) × Contains suspects v

-- the suspects cover every event that is poppable at these cursors
abbrev pub MissesNone : Instance → List ℕ → List ℕ → Type 0
MissesNone i c suspects = (e : Event) → IsEvent i.family e → IsPoppable i.stacks c e.cube
    → IsSuspected i.family suspects e
