-- The answers to command-line arguments and an input.
use Rattle.std.specs.Prelude.{◌≡◌, ◌⊎◌, ℕ, ◌≤◌, List, length, Option, unwrap_or, None, Some, ⊤}
use Rattle.pop_model.specs.Stacks.{Origin}
use Rattle.pop_model.specs.Instances.{Instance}
use Rattle.pop_edge.specs.Lines.{text_limit}
use Rattle.pop_stacks.specs.Tables.{origin_of}
use Rattle.pop_words.specs.declared.command.Command.{Command}
use Rattle.pop_words.specs.declared.command.Command.TheVariants.{Resample, Check, Make, Rounds, Replay, Resume}
use Rattle.pop_words.specs.declared.job.Job.{Job}
use Rattle.pop_words.specs.CommandLines.{Asks, IsBadPlace}
use Rattle.pop_watch.specs.Telling.{Watcher}
use Rattle.pop_print.specs.declared.facts.Facts.{Facts}
use Rattle.job_subjects.specs.declared.refusal.Refusal.{Refusal}
use Rattle.job_subjects.specs.declared.refusal.Refusal.TheVariants.{Usage}
use Rattle.job_subjects.specs.declared.wanted.Wanted.{Wanted}
use Rattle.job_subjects.specs.Refused.{RefusesText, HasNoBadLine}
use Rattle.job_subjects.specs.Made.{IsMade}
use Rattle.told_runs.specs.declared.asked.Asked.{Asked}
use Rattle.told_runs.specs.Asking.{asked_by}
use Rattle.told_runs.specs.Outcomes.{Outcome, AnswersBy}
use Rattle.told_runs.specs.Outcomes.Outcome.{Refused, Extremal}
use Rattle.told_runs.specs.Ends.{IsEndOf, IsHistoryOf, IsRoundsEndOf}
use Rattle.top_call.specs.Checks.{IsExtremalText}
use Rattle.top_call.specs.Pauses.{Pauses}
use Rattle.top_call.specs.Whole.{WasRead}
use Rattle.top_call.specs.Replays.{cert_limit, ComesOfReplaying}
use Rattle.top_call.specs.Resumes.{ComesOfResuming}

-- the last height of a run's keyed stacks, if they grow, and otherwise their height
abbrev pub last_height : Job → ℕ
last_height job = unwrap_or job.grow job.height

-- the source of the stacks of a job, at their last height
abbrev pub origin_for : Job → Origin
origin_for job = origin_of job.stacks (last_height job)

-- what a job wants to be made of its input
abbrev pub wanted_by : Job → Wanted
wanted_by job = record {
  command = job.command;
  origin = origin_for job;
  count = job.count;
  root = job.root;
  side = job.size;
}

-- how the run of what a command makes ends: by any order of its pops for `resample`, by rounds, or
-- otherwise on one thread
abbrev pub EndsAs : Command → Asked → List Watcher → Facts → Instance → Outcome → Type 0
EndsAs Resample asked watchers facts i o = IsHistoryOf asked watchers facts i o
EndsAs Rounds asked watchers facts i o = IsRoundsEndOf facts i o
EndsAs command asked watchers facts i o = IsEndOf asked watchers facts i o

-- what a job makes of an input is run to its end, or to a pause
pub record ComesOfRun (job : Job) (watchers : List Watcher) (text : List ℕ) (o : Outcome)
    : Type 0 where
  pub facts : Facts
  pub instance : Instance
  pub made : IsMade (wanted_by job) text facts instance
  pub run : EndsAs job.command (asked_by job) watchers facts instance o
      ⊎ Pauses job text facts instance o

-- The outcome of a job, watchers and an input, by the line of the job's command: an error of the
-- input, a verdict on it, or the run of what is made of it.
abbrev pub ComesOf : Job → List Watcher → List ℕ → Outcome → Type 0
ComesOf job watchers text (Refused refusal) = RefusesText (wanted_by job) text refusal
ComesOf job watchers text (Extremal count) = (job.command ≡ Check) × IsExtremalText text count
ComesOf job watchers text o = ComesOfRun job watchers text o

-- the command reads no certificate, so its outcome is by its line
abbrev pub IsOfLine : Command → Type 0
IsOfLine Replay = ⊥
IsOfLine Resume = ⊥
IsOfLine command = ⊤

-- The outcome of a job by its command. A certificate is replayed or resumed; for any other input
-- the outcome is by the command's line.
abbrev pub ComesBy : Command → Job → List Watcher → List ℕ → Outcome → Type 0
ComesBy Replay job watchers text o = ComesOfReplaying text o
ComesBy Resume job watchers text o = ComesOfResuming ComesOf watchers text o
ComesBy command job watchers text o = ComesOf job watchers text o

-- some arguments specify the job
abbrev pub IsAsked : Job → Type 0
IsAsked job = (words : List (List ℕ)) × Asks words job

-- the arguments specify a job, and this is its outcome with the watchers and the input
pub record ComesOfJob (words : List (List ℕ)) (watchers : List Watcher) (text : List ℕ)
    (o : Outcome) : Type 0 where
  pub job : Job
  pub asks : Asks words job
  pub comes : ComesBy job.command job watchers text o

-- the arguments are not a command line, and the error is their first invalid one
pub record AreRefused (words : List (List ℕ)) (refusal : Refusal) : Type 0 where
  pub place : ℕ
  pub bad : IsBadPlace words place
  pub is : refusal ≡ Usage place

-- the outcome of arguments, watchers and an input
abbrev pub IsOutcome : List (List ℕ) → List Watcher → List ℕ → Outcome → Type 0
IsOutcome words watchers text (Refused refusal) =
    AreRefused words refusal ⊎ ComesOfJob words watchers text (Refused refusal)
IsOutcome words watchers text o = ComesOfJob words watchers text o

-- the status and the output are an answer to arguments, watchers and an input
abbrev pub IsAnswer : List (List ℕ) → List Watcher → List ℕ → ℕ → List ℕ → Type 0
IsAnswer words watchers text status out = AnswersBy (IsOutcome words watchers text) status out

-- the arguments specify a grid
abbrev pub AskForGrid : List (List ℕ) → Type 0
AskForGrid words = (job : Job) × Asks words job × (job.command ≡ Make)

-- this is the input for the arguments: what the source has left, or anything if a grid is made
abbrev pub IsInput : List (List ℕ) → Option (List ℕ) → List ℕ → Type 0
IsInput words left text = (left ≡ Some text) ⊎ AskForGrid words

-- The bytes that were taken before the source failed. For certificates and for `--pops` only their
-- number is bounded, since these inputs are read completely before they are checked.
abbrev pub MayFailBehind : Option ℕ → Command → List ℕ → Type 0
MayFailBehind (Some pops) command taken = length taken ≤ text_limit
MayFailBehind None Replay taken = length taken ≤ cert_limit
MayFailBehind None Resume taken = length taken ≤ cert_limit
MayFailBehind None command taken = HasNoBadLine command taken

-- The source was read completely, if the command reads a certificate or has a limit of pops: to
-- its end, or to the first byte past the limit.
abbrev pub WasReadWhole : Option ℕ → Command → Option (List ℕ) → Option (List ℕ) → Type 0
WasReadWhole (Some pops) command left left' = WasRead text_limit left left'
WasReadWhole None Replay left left' = WasRead cert_limit left left'
WasReadWhole None Resume left left' = WasRead cert_limit left left'
WasReadWhole None command left left' = ⊤
