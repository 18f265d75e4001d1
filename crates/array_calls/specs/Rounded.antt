-- Samples by rounds, as rows have them: the pops of such an end are its rounds.
use Rattle.std.specs.Prelude.{ℕ, List, Option, MatchOption}
use Rattle.pop_model.specs.Instances.{Instance, instance_for}
use Rattle.pop_model.specs.Places.{IsLeast}
use Rattle.pop_model.specs.Runs.{IsFinished, IsStuckList}
use Rattle.confluence_core.specs.declared.end.End.{End}
use Rattle.confluence_core.specs.Runs.{IsEndOver}
use Rattle.pop_batch.specs.Parts.{start_at}
use Rattle.prs_rounds.specs.Rounds.{HasNoNext, Rounds}
use Rattle.array_calls.specs.Values.{IsRow, IsStop, LeavesRows, ValueArrays}

-- Rounds from these cursors lead to the end. No event occurs there, or a variable of the resampling set is at its last
-- entry. The stuck list has all events that occur.
pub record IsRoundedFrom (i : Instance) (start : List ℕ) (end : End) : Type 0 where
  pub short : Option ℕ
  pub run : Rounds i end.pops start end.cursors
  pub last : MatchOption short (IsFinished i end.cursors) (IsLeast (HasNoNext i end.cursors))
  pub stuck_list : IsStuckList i end.cursors end.stuck
  pub over : IsEndOver i.stacks end

-- the end of sample j by rounds: of its whole run, or of the run from given cursors
abbrev pub IsRoundedEnd : Instance → ℕ → Option (List ℕ) → End → Type 0
IsRoundedEnd i j from end = IsRoundedFrom (instance_for j i) (start_at (instance_for j i) from) end

-- rounds from these cursors lead to where a run was stopped, and some event occurs there
pub record IsRoundedStopFrom (i : Instance) (start : List ℕ) (stop : End) : Type 0 where
  pub run : Rounds i stop.pops start stop.cursors
  pub stuck_list : IsStuckList i stop.cursors stop.stuck
  pub over : IsEndOver i.stacks stop
  pub some : IsFinished i stop.cursors → ⊥

-- sample j was stopped there
abbrev pub IsRoundedStop : Instance → ℕ → Option (List ℕ) → End → Type 0
IsRoundedStop i j from stop = IsRoundedStopFrom (instance_for j i) (start_at (instance_for j i) from) stop

-- rows by rounds
abbrev pub IsRoundRow : Instance → ℕ → ℕ → List ℕ → ℕ → List ℕ → List ℕ → List ℕ → Type 0
IsRoundRow i n first from j values useds counts = IsRow (IsRoundedEnd i) n first from j values useds counts

abbrev pub IsRoundStop : Instance → ℕ → ℕ → List ℕ → ℕ → List ℕ → List ℕ → Type 0
IsRoundStop i n first from j useds counts = IsStop (IsRoundedStop i) n first from j useds counts

abbrev pub LeavesRounds : Instance → ℕ → ℕ → List ℕ → ℕ → ℕ → ValueArrays → ValueArrays → Option ℕ → Type 0
LeavesRounds i n first from budget count old new stopped =
    LeavesRows (IsRoundedEnd i) (IsRoundedStop i) n first from budget count old new stopped
