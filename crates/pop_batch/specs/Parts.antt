-- Parts of samples: runs that begin at given cursors, and runs that stop after a number of pops.
use Rattle.std.specs.Prelude.{◌≡◌, ℕ, ◌+◌, ◌<◌, ◌≤◌, ◌^◌, List, [], ◌∷◌, length, sum_by, Option, None, Some, IsTrue, ⊤}
use Rattle.pop_model.specs.Stacks.{variables_of}
use Rattle.pop_model.specs.Popping.{AreWithin, IsPoppable}
use Rattle.pop_model.specs.Families.{Event, IsEvent}
use Rattle.pop_model.specs.Instances.{Instance, instance_for}
use Rattle.pop_model.specs.Logs.{LogRecord, IsLegal, replay}
use Rattle.pop_model.specs.Runs.{IsFirstRun, IsStuckList, start_of}
use Rattle.confluence_core.specs.declared.end.End.{End}
use Rattle.confluence_core.specs.Runs.{IsEndOver}
use Rattle.pop_batch.specs.Batches.{IsSampleEnd}
use Rattle.pop_batch.specs.declared.part.Part.{Part}

-- the start of a run: the given cursors, or those before any pop
abbrev pub start_at : Instance → Option (List ℕ) → List ℕ
start_at i None = start_of i
start_at i (Some cursors) = cursors

-- a run can begin there: each variable has a cursor, below its height
abbrev pub CanStart : Instance → Option (List ℕ) → Type 0
CanStart i None = ⊤
CanStart i (Some cursors) = (variables_of i.stacks ≡ length cursors) × AreWithin i.stacks cursors

-- the end of the one-thread run from these cursors, which always pops the first poppable event
pub record IsEndFrom (i : Instance) (start : List ℕ) (end : End) : Type 0 where
  pub log : List LogRecord
  pub run : IsFirstRun i start log
  pub cursors_are : end.cursors ≡ replay start log
  pub pops_are : end.pops ≡ length log
  pub stuck_list : IsStuckList i end.cursors end.stuck
  pub over : IsEndOver i.stacks end

-- the end of sample j: of its whole run, or of the run from given cursors
abbrev pub IsPartEnd : Instance → ℕ → Option (List ℕ) → End → Type 0
IsPartEnd i j None end = IsSampleEnd i j end
IsPartEnd i j (Some cursors) end = IsEndFrom (instance_for j i) cursors end

-- some event is poppable
abbrev pub IsOpen : Instance → List ℕ → Type 0
IsOpen i c = (e : Event) × IsEvent i.family e × IsPoppable i.stacks c e.cube

-- a legal log leads from these cursors to those at which a run was stopped, and some event is
-- poppable there
pub record IsStopFrom (i : Instance) (start : List ℕ) (stop : End) : Type 0 where
  pub log : List LogRecord
  pub legal : IsLegal i start log
  pub cursors_are : stop.cursors ≡ replay start log
  pub pops_are : stop.pops ≡ length log
  pub stuck_list : IsStuckList i stop.cursors stop.stuck
  pub over : IsEndOver i.stacks stop
  pub poppable : IsOpen i stop.cursors

-- sample j was stopped there
abbrev pub IsPartStop : Instance → ℕ → Option (List ℕ) → End → Type 0
IsPartStop i j from stop =
    IsStopFrom (instance_for j i) (start_at (instance_for j i) from) stop

-- A part of sample j from given cursors: its end, with at most `limit` pops; or the cursors at
-- which it was stopped, after exactly `limit` pops.
pub record IsPart (i : Instance) (j : ℕ) (from : Option (List ℕ)) (limit : ℕ) (part : Part) : Type 0 where
  pub stopped : IsTrue part.is_open → IsPartStop i j from part.at × (part.at.pops ≡ limit)
  pub ended : (IsTrue part.is_open → ⊥) → IsPartEnd i j from part.at
  pub most : part.at.pops ≤ limit
  pub few : part.at.pops < 2 ^ 63

-- The run of sample j was stopped at these places, one after another. It continues from the last
-- one to this end, which has the pops since then.
abbrev pub GoesByStops : Instance → ℕ → Option (List ℕ) → List End → End → Type 0
GoesByStops i j from [] end = IsPartEnd i j from end
GoesByStops i j from (stop ∷ stops) end =
    IsPartStop i j from stop × GoesByStops i j (Some stop.cursors) stops end

-- the pops of all parts together
abbrev pub pops_with : List End → End → ℕ
pops_with stops end = sum_by (λ (stop : End). stop.pops) stops + end.pops
