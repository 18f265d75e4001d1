-- The requested parts of a log, which follow the end of its run: the log in its layered order, the
-- witness of a pop, and the reports of watchers.
use Rattle.std.specs.Prelude.{◌≡◌, ℕ, Bool, if◌then◌else◌, ◌||◌, List, [], ◌++◌, map, length, Option, None, Some, is_some}
use Rattle.pop_model.specs.Families.{Event}
use Rattle.pop_model.specs.Instances.{Instance}
use Rattle.pop_model.specs.Logs.{LogRecord, IsLegal, replay}
use Rattle.pop_model.specs.Runs.{IsEnd, IsStuckList, start_of}
use Rattle.confluence_core.specs.declared.run.Run.{Run}
use Rattle.pop_log.specs.declared.names.Names.{Names}
use Rattle.pop_log.specs.Layers.{Placed}
use Rattle.pop_log.specs.Layered.{AreSorted}
use Rattle.pop_log.specs.LayeredTexts.{placed_text}
use Rattle.pop_watch.specs.Telling.{Watcher, log_told}
use Rattle.told_runs.specs.declared.asked.Asked.{Asked}
use Rattle.told_runs.specs.Witnesses.{Witness, IsWitness, witness_text, is_missing}
use Rattle.told_runs.specs.Reports.{reports_text, asks_report}

-- the parts of a log that follow an end
pub record Telling : Type 0 where
  -- the layered log, if it is printed
  pub log : Option (List Placed)
  -- the witness of the requested pop
  pub witness : Witness
  -- the requested reports
  pub reports : List ℕ

-- records without their layers
abbrev pub records_of : List Placed → List LogRecord
records_of placed = map (λ p. p.0) placed

-- The requested parts of a layered log: the log itself, if it is printed; the witness of one of
-- its pops; and the reports of the watchers after each received its records, in order and once.
pub record IsToldOf (asked : Asked) (watchers : List Watcher) (names : Names) (i : Instance)
    (placed : List Placed) (t : Telling) : Type 0 where
  pub log_is : t.log ≡ (if asked.log then Some placed else None)
  pub witness_is : IsWitness names asked.witness (replay (start_of i) (records_of placed))
      (records_of placed) t.witness
  pub reports_are : t.reports ≡ reports_text asked.reports (log_told (records_of placed) watchers)

-- the text of the layered log, if it is printed
abbrev pub layered_text : Names → Instance → Option (List Placed) → List ℕ
layered_text names i None = []
layered_text names i (Some placed) = placed_text names i placed

-- the text of the layered log, followed by that of the witness and the reports
abbrev pub telling_text : Names → Instance → Telling → List ℕ
telling_text names i t =
    layered_text names i t.log ++ witness_text names i.family t.witness ++ t.reports

-- the log is legal from the start, and leads to an end with this stuck list
pub record LeadsToEnd (i : Instance) (log : List LogRecord) (stuck : List Event) : Type 0 where
  pub legal : IsLegal i (start_of i) log
  pub end : IsEnd i (replay (start_of i) log)
  pub stuck_list : IsStuckList i (replay (start_of i) log) stuck

-- the parts of a layered log after its text, and whether the requested pop is missing
pub record TellsRecords (asked : Asked) (watchers : List Watcher) (names : Names) (i : Instance)
    (log : List LogRecord) (missing : Bool) (text : List ℕ) : Type 0 where
  pub witness : Witness
  pub is : IsWitness names asked.witness (replay (start_of i) log) log witness
  pub missing_is : missing ≡ is_missing witness
  pub text_is : text ≡ witness_text names i.family witness
      ++ reports_text asked.reports (log_told log watchers)

-- the parts of a log by its layered log, as a text, and whether the requested pop is missing
pub record TellsLog (asked : Asked) (watchers : List Watcher) (names : Names) (i : Instance)
    (log : List LogRecord) (missing : Bool) (text : List ℕ) : Type 0 where
  pub placed : List Placed
  pub sorted : AreSorted log placed
  pub telling : Telling
  pub is : IsToldOf asked watchers names i placed telling
  pub missing_is : missing ≡ is_missing telling.witness
  pub text_is : text ≡ telling_text names i telling

-- a log leads to the end of this run, and is the one that it kept, if it kept one
pub record IsLogOf (i : Instance) (run : Run) (log : List LogRecord) : Type 0 where
  pub leads : LeadsToEnd i log run.end.stuck
  pub cursors_are : run.end.cursors ≡ replay (start_of i) log
  pub pops_are : run.end.pops ≡ length log
  pub kept : (own : List LogRecord) → run.log ≡ Some own → log ≡ own

-- these are the parts of the log of a run
pub record TellsRun (asked : Asked) (watchers : List Watcher) (names : Names) (i : Instance)
    (run : Run) (missing : Bool) (text : List ℕ) : Type 0 where
  pub log : List LogRecord
  pub of : IsLogOf i run log
  pub told : TellsLog asked watchers names i log missing text

-- a text, followed by one with this property
pub record Continues (before : List ℕ) (Says : List ℕ → Type 0) (text : List ℕ) : Type 0 where
  pub told : List ℕ
  pub says : Says told
  pub text_is : text ≡ before ++ told

-- the watchers receive the log: if the pops may be made in any order, or if a report is requested
abbrev pub tells_watchers : Asked → Bool
tells_watchers asked = asked.free || asks_report asked.reports

-- the records of the log are read: for a witness, or for the watchers
abbrev pub looks_at_records : Asked → Bool
looks_at_records asked = is_some asked.witness || tells_watchers asked

-- the log is kept: to read its records, or to print it
abbrev pub asks_for_log : Asked → Bool
asks_for_log asked = asked.log || looks_at_records asked
