-- The outcome of a certificate that is resumed: it is rejected, or its run continues to an end.
use Rattle.std.specs.Prelude.{◌≡◌, ℕ, List, ◌++◌, Option, Some, ⊤}
use Rattle.pop_model.specs.Instances.{Instance}
use Rattle.pop_model.specs.Logs.{LogRecord, IsLegal, replay}
use Rattle.pop_model.specs.Runs.{start_of}
use Rattle.pop_log.specs.Layered.{AreSorted}
use Rattle.pop_words.specs.declared.job.Job.{Job}
use Rattle.pop_watch.specs.Telling.{Watcher}
use Rattle.run_cert.specs.Certificates.{Certificate}
use Rattle.told_runs.specs.Outcomes.{Outcome}
use Rattle.told_runs.specs.Outcomes.Outcome.{Refused, Ended, Resampled}
use Rattle.top_call.specs.Replays.{job_of, ComesOfCert, HasLog, IsRefused}

-- a log has these records, followed by those of a log that is legal after them
abbrev pub IsJoined : Instance → List LogRecord → List LogRecord → Type 0
IsJoined i first log =
    (rest : List LogRecord) × (log ≡ first ++ rest) × IsLegal i (replay (start_of i) first) rest

-- if a log is kept, it has these records, followed by those of a log that is legal after them
abbrev pub IsJoinedLog : Instance → List LogRecord → Option (List LogRecord) → Type 0
IsJoinedLog i first kept = (log : List LogRecord) → kept ≡ Some log → IsJoined i first log

-- An end. If a log is printed with it, it is that of both parts of the run: it has these records,
-- followed by those of a log that is legal after them.
abbrev pub GoesOnFrom : List LogRecord → Outcome → Type 0
GoesOnFrom log (Ended facts i cursors pops stuck telling) = ⊤
GoesOnFrom log (Resampled facts i placed stuck telling) =
    (whole : List LogRecord) × IsJoined i log whole × AreSorted whole placed
GoesOnFrom log o = ⊥

-- the outcome of a job, watchers and an input, by the line of the job's command
abbrev pub ByLine : Type 1
ByLine = Job → List Watcher → List ℕ → Outcome → Type 0

-- the certificate's run is resumed: to an end, as the line of its command prints it
pub record IsResumed (Line : ByLine) (watchers : List Watcher) (cert : Certificate) (o : Outcome)
    : Type 0 where
  pub has : HasLog cert
  pub goes_on : GoesOnFrom has.log o
  pub comes : Line (job_of cert.head) watchers cert.input o

-- the outcome of bytes that are resumed
abbrev pub ComesOfResuming : ByLine → List Watcher → List ℕ → Outcome → Type 0
ComesOfResuming Line watchers bytes (Refused refusal) = IsRefused bytes refusal
ComesOfResuming Line watchers bytes o = ComesOfCert (IsResumed Line watchers) bytes o
