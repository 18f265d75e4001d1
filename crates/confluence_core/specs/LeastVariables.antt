-- Cycles by their lowest variables, which are their units.
use Rattle.std.specs.Prelude.{◌≡◌, ℕ, List}
use Rattle.pop_model.specs.Popping.{Cube, IsPoppable}
use Rattle.pop_model.specs.Cycles.{IsCycle, first_of}
use Rattle.confluence_core.specs.CycleTables.{CycleTable}
use Rattle.confluence_core.specs.Loops.{HaveNext}
use Rattle.confluence_core.specs.ArrowWalks.{IsClosedWalk}

-- no cycle with this lowest variable is poppable
abbrev pub IsQuietAt : CycleTable → List ℕ → ℕ → Type 0
IsQuietAt t c start =
    (e : Cube) → IsCycle t.heads e → first_of e ≡ start → IsPoppable t.stacks c e → ⊥

-- the variables are those of a poppable cycle with this lowest variable
pub record IsPoppableWalk (t : CycleTable) (c : List ℕ) (start : ℕ)
    (members : List ℕ) : Type 0 where
  pub walk : IsClosedWalk t c start start members
  pub next : HaveNext t c members
