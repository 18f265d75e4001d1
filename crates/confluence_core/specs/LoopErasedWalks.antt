-- A loop-erased walk along the current arrows (Wilson 1996; Propp and Wilson 1998).
use Rattle.std.specs.Prelude.{◌≡◌, ℕ, ◌+◌, ◌-◌, ◌*◌, ◌==◌, if◌then◌else◌, length, slice_index}
use Rattle.pop_model.proofs.Room.{left_from}
use Rattle.confluence_core.specs.Loops.{Marks}
use Rattle.confluence_core.specs.Walks.{settled, IsSettled, IsMet, AreDone, AreSized, IsPath, CanWalkOn, HasRoom, AreLast}
use Rattle.confluence_core.specs.declared.walk.Walk.{Walk}

-- a settled variable stays settled
abbrev pub StaySettled : Walk → Walk → Type 0
StaySettled old new = (v : ℕ) → IsSettled old.marks.items v → IsSettled new.marks.items v

-- the sizes of the lists that the walk uses
abbrev pub IsSized : Walk → Type 0
IsSized w = AreSized w.current w.walked.cursors w.marks.items w.path.items

-- the arrows lead along the first n places of the path, which passes no variable twice
abbrev pub HasPath : Walk → ℕ → Type 0
HasPath w n = IsPath w.current w.walked.cursors w.marks.items w.path.items n

-- the settled variables are done
abbrev pub HasDone : Walk → Type 0
HasDone w = AreDone w.current w.walked.cursors (IsSettled w.marks.items) w.walked.stuck

-- the invariant between two walks
pub record Stands (w : Walk) : Type 0 where
  pub sized : IsSized w
  pub done : HasDone w
  pub last : AreLast w.current w.walked
  pub room : HasRoom w.current w.walked

-- the invariant of a walk: its path leads to a variable that it has not met
pub record Walks (w : Walk) : Type 0 where
  pub sized : IsSized w
  pub goes_on : CanWalkOn w.current w.walked.cursors w.marks.items w.path.items w.depth w.at
  pub done : HasDone w
  pub last : AreLast w.current w.walked
  pub room : HasRoom w.current w.walked

-- the walk is over: the variables that it met are done
pub record IsOver (w : Walk) : Type 0 where
  pub sized : IsSized w
  pub trail : HasPath w (w.depth + 1)
  pub done : AreDone w.current w.walked.cursors (IsMet w.marks.items w.path.items (w.depth + 1))
      w.walked.stuck
  pub last : AreLast w.current w.walked
  pub room : HasRoom w.current w.walked

-- after the walk is over, the variables that it met are settled
pub record SettlesPath (old new : Walk) : Type 0 where
  pub marks : Marks old.path.items (old.depth + 1) settled old.marks.items new.marks.items
  pub others : new ≡ record old { marks = new.marks }

-- the variable at which the walk began
abbrev pub begun_at : Walk → ℕ
begun_at w = if w.depth == 0 then w.at else slice_index w.path.items 0

-- the work that is left for the walk: it decreases at each step
abbrev pub work : Walk → ℕ
work w = left_from w.current.stacks 0 w.walked.cursors * (length w.current.heads + 1)
    + (length w.current.heads - w.depth)
