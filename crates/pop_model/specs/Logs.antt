-- The log of a run: which events were popped, one after another, and which entries they used.
use Rattle.std.specs.Prelude.{◌≡◌, ℕ, List, [], ◌∷◌, map, ⊤}
use Rattle.pop_model.specs.Popping.{Cube, IsPoppable, cursor, pop}
use Rattle.pop_model.specs.Families.{Event, IsEvent}
use Rattle.pop_model.specs.Instances.{Instance}

-- an event that was popped, with the entry that it used for each of its variables
pub record LogRecord : Type 0 where
  pub event : Event
  pub entries : List ℕ

-- the entries that a pop uses at these cursors
abbrev pub entries_at : List ℕ → Cube → List ℕ
entries_at c e = map (λ p. cursor c p.0) e

-- the event can be popped at these cursors, and uses their entries
pub record IsLegalAt (i : Instance) (c : List ℕ) (r : LogRecord) : Type 0 where
  pub event : IsEvent i.family r.event
  pub poppable : IsPoppable i.stacks c r.event.cube
  pub entries : r.entries ≡ entries_at c r.event.cube

-- each record is legal at the cursors after the records before it
abbrev pub IsLegal : Instance → List ℕ → List LogRecord → Type 0
IsLegal i c [] = ⊤
IsLegal i c (r ∷ log) = IsLegalAt i c r × IsLegal i (pop c r.event.cube) log

-- the cursors after all records
abbrev pub replay : List ℕ → List LogRecord → List ℕ
replay c [] = c
replay c (r ∷ log) = replay (pop c r.event.cube) log
