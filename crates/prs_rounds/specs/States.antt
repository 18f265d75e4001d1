-- The state of a run by rounds between two rounds.
use Rattle.std.specs.Prelude.{◌≡◌, ℕ, List, length, Option, MatchOption}
use Rattle.pop_model.specs.Stacks.{StackTable, variables_of}
use Rattle.pop_model.specs.Popping.{Cube, AreWithin}
use Rattle.pop_model.specs.Families.Family.{Listed}
use Rattle.pop_model.specs.Places.{IsLeast}
use Rattle.prs_rounds.specs.Growth.{IsBlank}
use Rattle.prs_rounds.specs.Grown.{StartsAt}
use Rattle.prs_rounds.specs.Rounds.{IsRound, HasNoNext}
use Rattle.prs_rounds.specs.declared.state.State.{State}

-- the cursors are below the heights, the values and the places are those of the cursors, and no
-- event is marked
pub record IsAt (s : StackTable) (rows : List (ℕ × Cube)) (state : State) : Type 0 where
  pub count : variables_of s ≡ length state.cursors
  pub within : AreWithin s state.cursors
  pub starts : StartsAt s rows state.cursors state.values.items state.found.items
  pub blank : IsBlank (length rows) (variables_of s) state.growth

-- a round was made, or this is the lowest variable that has no next entry
abbrev pub Turns : StackTable → List (ℕ × Cube) → State → State → Option ℕ → Type 0
Turns s rows old new short = MatchOption short
    (IsRound (record { stacks = s; family = Listed rows }) old.cursors new.cursors
    × IsAt s rows new)
    (λ v. IsLeast (HasNoNext (record { stacks = s; family = Listed rows }) old.cursors) v
    × (new.cursors ≡ old.cursors) × (new.values ≡ old.values))
