-- The possible outcomes of arguments and an input, and how each is printed.
use Rattle.std.specs.Prelude.{◌≡◌, ◌≢◌, ◌⊎◌, ◌≤◌, ℕ, if◌then◌else◌, List, [], ◌∷◌, ◌++◌, length, codes, Option}
use Rattle.pop_model.specs.Families.{Event}
use Rattle.pop_model.specs.Instances.{Instance}
use Rattle.pop_model.specs.Logs.{replay}
use Rattle.pop_model.specs.Runs.{start_of}
use Rattle.confluence_core.specs.declared.end.End.{End}
use Rattle.pop_log.specs.Layers.{Placed}
use Rattle.pop_log.specs.LayeredTexts.{placed_text}
use Rattle.pop_words.specs.declared.job.Job.{Job}
use Rattle.run_cert.specs.declared.look_kind.Look.{Look}
use Rattle.run_cert.specs.Certificates.{cert_of, cert_text}
use Rattle.pop_print.specs.declared.facts.Facts.{Facts}
use Rattle.pop_print.specs.Output.{end_text}
use Rattle.pop_print.specs.Rounds.{rounds_text}
use Rattle.pop_print.specs.Batches.{batch_text}
use Rattle.told_runs.specs.Names.{names_for}
use Rattle.told_runs.specs.Witnesses.{Witness, is_missing}
use Rattle.told_runs.specs.Tellings.{Telling, records_of, telling_text}
use Rattle.told_runs.specs.Batches.{batch_status}
use Rattle.told_runs.specs.ReplayTexts.{look_status, replay_text}
use Rattle.job_subjects.specs.declared.refusal.Refusal.{Refusal}
use Rattle.job_subjects.specs.Refusals.{s_line, refusal_status, refusal_line}

-- the outcome of arguments and an input
pub data Outcome : Type 0 where
  -- there is no run, for this reason
  Refused : (refusal : Refusal) → Outcome
  -- no two of this many events clash
  Extremal : (events : ℕ) → Outcome
  -- the run reached an end, and this is printed of its log
  Ended : (facts : Facts) (instance : Instance) (cursors : List ℕ) (pops : ℕ) (stuck : List Event)
      (telling : Telling) → Outcome
  -- a run with pops in any order reached an end; this is its layered log, and what is printed of
  -- it
  Resampled : (facts : Facts) (instance : Instance) (placed : List Placed) (stuck : List Event)
      (telling : Telling) → Outcome
  -- the run by rounds reached an end; if it is exhausted, this variable has no next entry
  Rounded : (facts : Facts) (instance : Instance) (cursors : List ℕ) (rounds : ℕ)
      (stuck : List Event) (short : Option ℕ) → Outcome
  -- the run of a job and its input stopped after the pops of this layered log, and an event is
  -- still poppable
  Paused : (job : Job) (input : List ℕ) (facts : Facts) (instance : Instance)
      (placed : List Placed) → Outcome
  -- the log with this many records is legal and leads to these cursors, and this is the state of
  -- the run there
  Replayed : (instance : Instance) (cursors : List ℕ) (records : ℕ) (look : Look) → Outcome
  -- the samples have these ends
  Batched : (facts : Facts) (instance : Instance) (ends : List End) → Outcome

-- the status of a run says whether an event still occurs
abbrev pub end_status : List Event → ℕ
end_status [] = 0
end_status (e ∷ stuck) = 1

-- the status of a resampling; a missing pop of the requested witness takes precedence
abbrev pub resampled_status : List Event → Witness → ℕ
resampled_status stuck witness = if is_missing witness then 6 else end_status stuck

-- the status of an outcome
abbrev pub status_of : Outcome → ℕ
status_of (Refused refusal) = refusal_status refusal
status_of (Extremal count) = 0
status_of (Ended facts i cursors pops stuck telling) = end_status stuck
status_of (Resampled facts i placed stuck telling) = resampled_status stuck telling.witness
status_of (Rounded facts i cursors rounds stuck short) = end_status stuck
status_of (Paused job input facts i placed) = 10
status_of (Replayed i cursors records look) = look_status look
status_of (Batched facts i ends) = batch_status ends

-- the text of a run: its end, followed by what is printed of its log
abbrev pub run_text : Facts → Instance → List ℕ → ℕ → List Event → Telling → List ℕ
run_text facts i cursors pops stuck telling =
    end_text facts i cursors pops stuck ++ telling_text (names_for facts) i telling

-- the text of a run with this layered log
abbrev pub resampled_text : Facts → Instance → List Placed → List Event → Telling → List ℕ
resampled_text facts i placed stuck telling =
    run_text facts i (replay (start_of i) (records_of placed)) (length placed) stuck telling

-- the text of a run that stopped: the certificate of its job, its input and its layered log
abbrev pub paused_text : Job → List ℕ → Facts → Instance → List Placed → List ℕ
paused_text job input facts i placed =
    cert_text (cert_of job input (placed_text (names_for facts) i placed))

-- the text of an outcome
abbrev pub text_of : Outcome → List ℕ
text_of (Refused refusal) = refusal_line refusal
text_of (Extremal count) = s_line (codes "EXTREMAL") (count ∷ [])
text_of (Ended facts i cursors pops stuck telling) = run_text facts i cursors pops stuck telling
text_of (Resampled facts i placed stuck telling) = resampled_text facts i placed stuck telling
text_of (Rounded facts i cursors rounds stuck short) =
    rounds_text facts i cursors rounds stuck short
text_of (Paused job input facts i placed) = paused_text job input facts i placed
text_of (Replayed i cursors records look) = replay_text records cursors look
text_of (Batched facts i ends) = batch_text facts i ends

-- a status of an answer, which is not that of a device or of memory
abbrev pub IsAnswerStatus : ℕ → Type 0
IsAnswerStatus status = (status ≤ 6) ⊎ ((status ≡ 10) ⊎ (status ≡ 11))

-- a status of an answer that does not concern the arguments
pub record IsTextStatus (status : ℕ) : Type 0 where
  pub answers : IsAnswerStatus status
  pub no_usage : status ≢ 2

-- a status with which a run or a verdict is printed: an end, or a stop
abbrev pub HasRun : ℕ → Type 0
HasRun status = (status ≤ 1) ⊎ (status ≡ 10)

-- the status and the output are those of an outcome
pub record Tells (outcome : Outcome) (status : ℕ) (out : List ℕ) : Type 0 where
  pub status_is : status ≡ status_of outcome
  pub out_is : out ≡ text_of outcome

-- the status and the output are those of an outcome with this property
abbrev pub AnswersBy : (Outcome → Type 0) → ℕ → List ℕ → Type 0
AnswersBy Comes status out = (outcome : Outcome) × Comes outcome × Tells outcome status out
