-- The result of an attempt at a unit, and the state of the book after it.
use Rattle.std.specs.Prelude.{◌≡◌, ℕ, List, [], ◌∷◌, ◌++◌}
use Rattle.pop_model.specs.Stacks.{StackTable}
use Rattle.pop_model.specs.Popping.{Occurs, HasNext, IsPoppable, pop}
use Rattle.pop_model.specs.Cycles.{ReachesRoot, arrow_at}
use Rattle.pop_model.specs.Families.{Event, Family, IsEvent}
use Rattle.pop_model.specs.Families.Family.{Listed, Cycles}
use Rattle.pop_model.specs.Instances.{Instance}
use Rattle.confluence_core.specs.Records.{record_at}
use Rattle.confluence_core.specs.ArrowWalks.{LeadsInto}
use Rattle.lock_board.specs.Books.{Progress}
use Rattle.lock_board.specs.declared.attempt.Attempt.{Attempt}
use Rattle.lock_board.specs.declared.attempt.Attempt.TheVariants.{Popped, Absent, Stuck, OutOfMemory}

-- the listed event of the unit, or a cycle that occurs and that the current arrows lead to from
-- the unit
abbrev pub IsFoundFrom : Family → StackTable → List ℕ → ℕ → Event → Type 0
IsFoundFrom (Listed rows) s c unit e = e.unit ≡ unit
IsFoundFrom (Cycles heads) s c unit e = Occurs s c e.cube × LeadsInto heads s c unit e.cube

-- the event of an attempt at the unit
pub record IsEventFrom (i : Instance) (c : List ℕ) (unit : ℕ) (e : Event) : Type 0 where
  pub event : IsEvent i.family e
  pub found : IsFoundFrom i.family i.stacks c unit e

-- the listed event of the unit does not occur, or the current arrows lead from it to the root
abbrev pub HasNoneAt : Family → StackTable → List ℕ → ℕ → Type 0
HasNoneAt (Listed rows) s c unit =
    (e : Event) → IsEvent (Listed rows) e → e.unit ≡ unit → Occurs s c e.cube → ⊥
HasNoneAt (Cycles heads) s c unit = ReachesRoot (arrow_at heads s c) unit

-- the event was poppable and was popped, and its record was added at the end of the log
pub record PopsEvent (i : Instance) (old new : Progress) (e : Event) : Type 0 where
  pub poppable : IsPoppable i.stacks old.cursors e.cube
  pub log : new.log ≡ old.log ++ record_at e.unit e.cube old.cursors ∷ []
  pub cursors : new.cursors ≡ pop old.cursors e.cube

-- the event occurs, and a variable of it is at its last entry
pub record IsStuck (i : Instance) (c : List ℕ) (e : Event) : Type 0 where
  pub occurs : Occurs i.stacks c e.cube
  pub last : HasNext i.stacks c e.cube → ⊥

-- the result of an attempt at an event that occurs
abbrev pub IsAnswerOf : Instance → Progress → Progress → Event → Attempt → Type 0
IsAnswerOf i old new e Popped = PopsEvent i old new e
IsAnswerOf i old new e Absent = ⊥
IsAnswerOf i old new e Stuck = IsStuck i old.cursors e × (new ≡ old)
IsAnswerOf i old new e OutOfMemory = new ≡ old

-- the result describes the event of the unit; every result except `Popped` leaves the book
-- unchanged
abbrev pub IsAnswer : Instance → Progress → Progress → ℕ → Attempt → Type 0
IsAnswer i old new unit Absent = HasNoneAt i.family i.stacks old.cursors unit × (new ≡ old)
IsAnswer i old new unit OutOfMemory = new ≡ old
IsAnswer i old new unit answer =
    (e : Event) × IsEventFrom i old.cursors unit e × IsAnswerOf i old new e answer
