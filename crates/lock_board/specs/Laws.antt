-- Theorems about attempts.
use Rattle.std.specs.Prelude.{◌≡◌, ◌↔◌, ℕ, ◌<◌, List}
use Rattle.pop_model.specs.Popping.{Occurs}
use Rattle.pop_model.specs.Families.{Event, units_of}
use Rattle.pop_model.specs.Instances.{Instance, IsInstance}
use Rattle.lock_board.specs.Attempts.{IsEventFrom, HasNoneAt}

-- a unit has no event exactly if no event that belongs to it occurs
abbrev pub AbsentExactly : Type 0
AbsentExactly = (i : Instance) → IsInstance i → (c : List ℕ) (unit : ℕ) → unit < units_of i.family
    → HasNoneAt i.family i.stacks c unit
    ↔ ((e : Event) → IsEventFrom i c unit e → Occurs i.stacks c e.cube → ⊥)

-- at most one event belongs to a unit
abbrev pub OneEvent : Type 0
OneEvent = (i : Instance) (c : List ℕ) (unit : ℕ) (e f : Event)
    → IsEventFrom i c unit e → IsEventFrom i c unit f → e ≡ f
