-- The result so far of a search over listed events.
use Rattle.std.specs.Prelude.{ℕ, ◌+◌, ◌<◌, ◌↔◌, List, [], ◌∷◌, ◌++◌, map, length, Contains}
use Rattle.std.specs.List.Sorted.{IsStrictlyIncreasing}
use Rattle.pop_model.specs.Stacks.{StackTable, variables_of, height_of}
use Rattle.pop_model.specs.Popping.{Cube, IsPoppable, Occurs, cursor}
use Rattle.pop_model.specs.Families.{Event, IsEvent}
use Rattle.pop_model.specs.Families.Family.{Listed}
use Rattle.pop_instance.specs.Events.{cube_at}
use Rattle.confluence_core.specs.Suspects.{MissesNone}

-- the event at a place is poppable
abbrev pub IsPoppableAt : StackTable → List ℕ → List (ℕ × Cube) → ℕ → Type 0
IsPoppableAt s c rows place = IsPoppable s c (cube_at rows place)

-- no event before this place is poppable
abbrev pub NoneBefore : StackTable → List ℕ → List (ℕ × Cube) → ℕ → Type 0
NoneBefore s c rows n = (place : ℕ) → place < n → IsPoppableAt s c rows place → ⊥

-- the events below a unit that occur, by rising unit
pub record IsStuckBelow (s : StackTable) (c : List ℕ) (rows : List (ℕ × Cube)) (n : ℕ)
    (stuck : List Event) : Type 0 where
  pub rising : IsStrictlyIncreasing (map (λ e. e.unit) stuck)
  pub exact : (e : Event) → Contains stuck e
      ↔ ((e.unit < n) × IsEvent (Listed rows) e × Occurs s c e.cube)

-- each variable has an entry after its cursor
abbrev pub AllHaveNext : StackTable → List ℕ → Type 0
AllHaveNext s c = (v : ℕ) → v < variables_of s → cursor c v + 1 < height_of s v

-- the list has the place of each poppable event
abbrev pub Covers : StackTable → List ℕ → List (ℕ × Cube) → List ℕ → Type 0
Covers s c rows list = MissesNone (record { stacks = s; family = Listed rows }) c list

-- the place of a poppable event, and a list that has the places of all others
pub record IsNextPlace (s : StackTable) (c : List ℕ) (rows : List (ℕ × Cube)) (list : List ℕ)
    (place : ℕ) : Type 0 where
  pub within : place < length rows
  pub poppable : IsPoppableAt s c rows place
  pub others : Covers s c rows (list ++ place ∷ [])
