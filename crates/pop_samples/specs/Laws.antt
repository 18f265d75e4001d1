-- Theorems about finishing: the pops do not depend on the values of the final sample.
use Rattle.std.specs.Prelude.{◌≡◌, ◌↔◌, ℕ, List, [], length, IsPermutation}
use Rattle.pop_model.specs.Stacks.{StackTable}
use Rattle.pop_model.specs.Popping.{AreWithin, current}
use Rattle.pop_model.specs.Instances.{Instance, IsInstance}
use Rattle.pop_model.specs.Extremal.{IsExtremal}
use Rattle.pop_model.specs.Logs.{LogRecord, replay}
use Rattle.pop_model.specs.Runs.{IsFinished, IsFirstEnd, start_of}
use Rattle.confluence_core.specs.Laws.{RunsToEnd}
use Rattle.pop_samples.specs.Finishing.{with_stacks, AgreeBelow, FinishesBy, FinishesAt, IsSample}

-- The log finishes at these cursors. So does the one-thread run, with as many pops, and each legal
-- log to an end has the same records.
pub record RunsLike (i : Instance) (log : List LogRecord) (c : List ℕ) : Type 0 where
  pub finishes : FinishesBy i log c
  pub first : IsFirstEnd i c (length log) []
  pub end : (other : List LogRecord) → RunsToEnd i (start_of i) other
      → replay (start_of i) other ≡ c
  pub records : (other : List LogRecord) → RunsToEnd i (start_of i) other → IsPermutation log other

-- A log that finishes an extremal instance has the same run on other stacks. These must have the
-- same entries below the end, and entries at the end with which no event occurs.
abbrev pub SamePops : Type 0
SamePops = (i : Instance) → IsInstance i → IsExtremal i.family → (log : List LogRecord) (c : List ℕ)
    → FinishesBy i log c → (t : StackTable) → AgreeBelow c i.stacks t → AreWithin t c
    → IsFinished (with_stacks i t) c → RunsLike (with_stacks i t) log c

-- Stacks with the same entries below the cursors at which a log finishes are finished there
-- exactly if their values there are a sample.
abbrev pub FinishesExactly : Type 0
FinishesExactly = (i : Instance) → IsInstance i → (c : List ℕ) → FinishesAt i c
    → (t : StackTable) → AgreeBelow c i.stacks t → AreWithin t c
    → FinishesAt (with_stacks i t) c ↔ IsSample i.family (current t c)

-- An extremal instance finishes at cursors exactly if its one-thread run ends there with no event
-- stuck.
abbrev pub FinishesFirst : Type 0
FinishesFirst = (i : Instance) → IsExtremal i.family → (c : List ℕ)
    → FinishesAt i c ↔ ((pops : ℕ) × IsFirstEnd i c pops [])
