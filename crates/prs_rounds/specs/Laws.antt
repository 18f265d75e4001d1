-- Theorems about resampling sets and rounds.
use Rattle.std.specs.Prelude.{◌≡◌, ◌≢◌, ◌⊎◌, ◌↔◌, ℕ, ◌+◌, List, [], Option, None}
use Rattle.pop_model.specs.Stacks.{StackTable}
use Rattle.pop_model.specs.Popping.{Cube, Occurs}
use Rattle.pop_model.specs.Families.{Event, IsEvent}
use Rattle.pop_model.specs.Families.Family.{Listed}
use Rattle.pop_model.specs.Instances.{Instance}
use Rattle.pop_model.specs.Extremal.{IsExtremal}
use Rattle.pop_model.specs.Runs.{IsFirstEnd, start_of}
use Rattle.prs_rounds.specs.Resampling.{OccursIn, Touches, Differs, IsResampled, IsExcluded}
use Rattle.prs_rounds.specs.Rounds.{IsRoundsEnd, IsRoundsStop, Rounds}

-- The resampling set, without its steps. It has the events that occur. An event that shares a
-- variable with one of it is in it or excluded. An excluded event is not in it, and demands
-- another value than the current one of a variable of the set.
pub record IsClosed (i : Instance) (c : List ℕ) : Type 0 where
  pub occurring : (e : Event) → OccursIn i c e → IsResampled i c e
  pub events : (e : Event) → IsResampled i c e → IsEvent i.family e
  pub closed : (e : Event) → IsEvent i.family e → Touches (IsResampled i c) e
      → IsResampled i c e ⊎ IsExcluded i c e
  pub apart : (e : Event) → IsExcluded i c e → IsResampled i c e → ⊥
  pub differs : (e : Event) → IsExcluded i c e → Differs i.stacks c (IsResampled i c) e
  pub outside : (e : Event) → IsEvent i.family e → (IsResampled i c e → ⊥)
      → Occurs i.stacks c e.cube → ⊥

-- the resampling set of listed events is closed
abbrev pub ResampledClosed : Type 0
ResampledClosed = (s : StackTable) (rows : List (ℕ × Cube)) (c : List ℕ)
    → IsClosed (record { stacks = s; family = Listed rows }) c

-- two results of runs by rounds are equal
pub record SameRoundsEnd (c d : List ℕ) (n m : ℕ) (s t : List Event) (a b : Option ℕ)
    : Type 0 where
  pub cursors : c ≡ d
  pub rounds : n ≡ m
  pub stuck : s ≡ t
  pub short : a ≡ b

-- a run by rounds has at most one result
abbrev pub OneRoundsEnd : Type 0
OneRoundsEnd = (i : Instance) (c d : List ℕ) (n m : ℕ) (s t : List Event) (a b : Option ℕ)
    → IsRoundsEnd i c n s a → IsRoundsEnd i d m t b → SameRoundsEnd c d n m s t a b

-- on an extremal instance the resampling set is the set of events that occur
abbrev pub ResampledOccur : Type 0
ResampledOccur = (i : Instance) → IsExtremal i.family → (c : List ℕ) (e : Event)
    → IsResampled i c e ↔ OccursIn i c e

-- The result of rounds and the end of the one-thread run. Either both are exhausted or none is; if
-- both finish, their cursors are equal.
pub record EndsLikeFirst (cursors firsts : List ℕ) (short : Option ℕ) (stuck : List Event)
    : Type 0 where
  pub exhausted : (short ≢ None) ↔ (stuck ≢ [])
  pub finished : short ≡ None → cursors ≡ firsts

-- on an extremal instance of listed events rounds end as the one-thread run does
abbrev pub RoundsEndLikeFirst : Type 0
RoundsEndLikeFirst = (s : StackTable) (rows : List (ℕ × Cube)) → IsExtremal (Listed rows)
    → (c : List ℕ) (rounds : ℕ) (list : List Event) (short : Option ℕ)
    → IsRoundsEnd (record { stacks = s; family = Listed rows }) c rounds list short
    → (firsts : List ℕ) (pops : ℕ) (stuck : List Event)
    → IsFirstEnd (record { stacks = s; family = Listed rows }) firsts pops stuck
    → EndsLikeFirst c firsts short stuck

-- A run by rounds that continues from cursors that rounds have reached has the end of the whole
-- run, if no event occurs there or a variable is short. Its rounds are those before and those
-- after.
abbrev pub GoesOn : Type 0
GoesOn = (i : Instance) (between c : List ℕ) (n limit rounds : ℕ) (stuck : List Event) (short : Option ℕ)
    → Rounds i n (start_of i) between → IsRoundsStop i between limit c rounds stuck short
    → (short ≢ None) ⊎ (stuck ≡ []) → IsRoundsEnd i c (n + rounds) stuck short

-- rounds from the beginning lead to the cursors at which a run stopped
abbrev pub StopsOnTheWay : Type 0
StopsOnTheWay = (i : Instance) (between c : List ℕ) (n limit rounds : ℕ) (stuck : List Event) (short : Option ℕ)
    → Rounds i n (start_of i) between → IsRoundsStop i between limit c rounds stuck short
    → Rounds i (n + rounds) (start_of i) c
