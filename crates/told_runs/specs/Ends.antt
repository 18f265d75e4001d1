-- The ends of runs, and what is printed of them.
use Rattle.std.specs.Prelude.{◌≡◌, ℕ, ◌≤◌, List, [], length, Option, None, Some, ⊤}
use Rattle.pop_model.specs.Instances.{Instance}
use Rattle.pop_model.specs.Logs.{LogRecord}
use Rattle.pop_model.specs.Runs.{IsFirstRun, IsFirstEnd, start_of}
use Rattle.prs_rounds.specs.Rounds.{IsRoundsEnd}
use Rattle.pop_log.specs.declared.names.Names.{Names}
use Rattle.pop_log.specs.Layers.{Placed}
use Rattle.pop_log.specs.Layered.{AreInLayers, AreSorted}
use Rattle.pop_watch.specs.Telling.{Watcher}
use Rattle.pop_print.specs.declared.facts.Facts.{Facts}
use Rattle.told_runs.specs.declared.asked.Asked.{Asked}
use Rattle.told_runs.specs.Names.{names_for}
use Rattle.told_runs.specs.Tellings.{Telling, IsToldOf, records_of, LeadsToEnd}
use Rattle.told_runs.specs.Batches.{IsBatchOf}
use Rattle.told_runs.specs.Outcomes.{Outcome}
use Rattle.told_runs.specs.Outcomes.Outcome.{Ended, Resampled, Rounded, Batched}

-- this is printed of the layered log of the instance's one-thread run
pub record IsToldOfFirst (asked : Asked) (watchers : List Watcher) (names : Names) (i : Instance)
    (t : Telling) : Type 0 where
  pub log : List LogRecord
  pub run : IsFirstRun i (start_of i) log
  pub placed : List Placed
  pub sorted : AreSorted log placed
  pub told : IsToldOf asked watchers names i placed t

-- if the run has a limit of pops, it reached its end within it
abbrev pub EndsWithin : Option ℕ → ℕ → Type 0
EndsWithin None pops = ⊤
EndsWithin (Some most) pops = pops ≤ most

-- The end of the instance's one-thread run, and the requested parts of its log. If a number of
-- samples is requested, the end of each.
abbrev pub IsEndOf : Asked → List Watcher → Facts → Instance → Outcome → Type 0
IsEndOf asked watchers facts i (Ended told j cursors pops stuck telling) =
    (told ≡ facts) × (j ≡ i) × IsFirstEnd i cursors pops stuck
    × IsToldOfFirst asked watchers (names_for facts) i telling × (asked.count ≡ None)
    × EndsWithin asked.pops pops
IsEndOf asked watchers facts i (Batched told j ends) =
    (told ≡ facts) × (j ≡ i) × IsBatchOf asked.count i ends
IsEndOf asked watchers facts i o = ⊥

-- A run of the instance to an end, with its log in layered order and the requested parts of this
-- log.
abbrev pub IsHistoryOf : Asked → List Watcher → Facts → Instance → Outcome → Type 0
IsHistoryOf asked watchers facts i (Resampled told j placed stuck telling) =
    (told ≡ facts) × (j ≡ i) × LeadsToEnd i (records_of placed) stuck × AreInLayers [] placed
    × IsToldOf asked watchers (names_for facts) i placed telling
    × EndsWithin asked.pops (length placed)
IsHistoryOf asked watchers facts i o = ⊥

-- if the outcome has a layered log, it is that of this log
abbrev pub IsLayeredFrom : List LogRecord → Outcome → Type 0
IsLayeredFrom log (Resampled facts i placed stuck telling) = AreSorted log placed
IsLayeredFrom log o = ⊥

-- a run of the instance to an end with this log
abbrev pub IsHistoryWith : List LogRecord → Asked → List Watcher → Facts → Instance → Outcome
    → Type 0
IsHistoryWith log asked watchers facts i o =
    IsHistoryOf asked watchers facts i o × IsLayeredFrom log o

-- the result of the instance's run by rounds
abbrev pub IsRoundsEndOf : Facts → Instance → Outcome → Type 0
IsRoundsEndOf facts i (Rounded told j cursors rounds stuck short) =
    (told ≡ facts) × (j ≡ i) × IsRoundsEnd i cursors rounds stuck short
IsRoundsEndOf facts i o = ⊥
