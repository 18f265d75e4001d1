-- Theorems about answers.
use Rattle.std.specs.Prelude.{◌≡◌, ◌≢◌, ◌⊎◌, ℕ, ◌<◌, ◌≤◌, List, length, Option, None, Some, slice_get, ⊤}
use Rattle.pop_words.specs.declared.command.Command.TheVariants.{Resample}
use Rattle.pop_words.specs.declared.job.Job.{Job}
use Rattle.pop_words.specs.CommandLines.{Asks}
use Rattle.pop_words.specs.declared.reports.Reports.{Reports}
use Rattle.pop_watch.specs.Telling.{Watcher, log_told}
use Rattle.pop_model.specs.Families.{Event}
use Rattle.pop_model.specs.Instances.{Instance, instance_for}
use Rattle.pop_model.specs.Logs.{LogRecord, replay}
use Rattle.pop_model.specs.Runs.{IsFinished, IsFirstEnd, start_of}
use Rattle.confluence_core.specs.declared.end.End.{End}
use Rattle.confluence_core.specs.Laws.{RunsToEnd}
use Rattle.told_runs.specs.Outcomes.{Outcome, status_of, AnswersBy}
use Rattle.told_runs.specs.Outcomes.Outcome.{Ended, Resampled, Rounded, Paused, Replayed, Batched}
use Rattle.pop_log.specs.Layers.{Placed}
use Rattle.told_runs.specs.Reports.{reports_text}
use Rattle.told_runs.specs.Tellings.{records_of, LeadsToEnd}
use Rattle.top_call.specs.Pauses.{IsPause}
use Rattle.top_call.specs.Answers.{IsOutcome, IsAnswer, IsOfLine}
use Rattle.answer_laws.specs.Orders.{HasOneEnd, LeadsToOneEnd}

-- All orders of the pops that the arguments ask for lead to one end of this input. A formula that
-- is resampled, or resumed, has extremal events. No run may stop before its end, since the set of
-- pops by then is free.
abbrev pub AskForOneEnd : List (List ℕ) → List ℕ → Type 0
AskForOneEnd words text = (job : Job) → Asks words job
    → LeadsToOneEnd job.command text × (job.pops ≡ None)

-- Watchers that report the same for every log, if these reports are asked for. Equal watchers do,
-- and any watchers do if no report is asked for.
abbrev pub ReportAlike : Reports → List Watcher → List Watcher → Type 0
ReportAlike asked watchers others = (log : List LogRecord)
    → reports_text asked (log_told log watchers) ≡ reports_text asked (log_told log others)

-- the watchers report the same if the arguments ask for reports
abbrev pub AskForLikeReports : List (List ℕ) → List Watcher → List Watcher → Type 0
AskForLikeReports words watchers others = (job : Job) → Asks words job
    → ReportAlike job.reports watchers others

-- the same, except for `resample`
abbrev pub AskForLike : List (List ℕ) → List Watcher → List Watcher → Type 0
AskForLike words watchers others = (job : Job) → Asks words job → job.command ≢ Resample
    → ReportAlike job.reports watchers others

-- such arguments and an input have at most one answer with watchers that report the same: one
-- status and one output
abbrev pub OneAnswer : Type 0
OneAnswer = (words : List (List ℕ)) (watchers others : List Watcher) (text : List ℕ)
    (status other : ℕ) (out out' : List ℕ) → AskForOneEnd words text
    → AskForLikeReports words watchers others
    → IsAnswer words watchers text status out → IsAnswer words others text other out'
    → (status ≡ other) × (out ≡ out')

-- The same holds for arguments with which a run may stop, if all orders of pops lead to one end,
-- for those answers that report no stop.
abbrev pub OneEndedAnswer : Type 0
OneEndedAnswer = (job : Job) (words : List (List ℕ)) (watchers others : List Watcher)
    (text : List ℕ) (status other : ℕ) (out out' : List ℕ) → Asks words job
    → IsOfLine job.command → HasOneEnd job.command text → ReportAlike job.reports watchers others
    → IsAnswer words watchers text status out → IsAnswer words others text other out'
    → status ≢ 10 → other ≢ 10 → (status ≡ other) × (out ≡ out')

-- a run to an end, and a run of the same instance that stopped after a number of pops, where the
-- first has no more pops
abbrev pub EndsAndPauses : Instance → List Placed → List Event → List Placed → Type 0
EndsAndPauses i placed stuck stopped =
    LeadsToEnd i (records_of placed) stuck × (length placed ≤ length stopped)
    × IsPause i (length stopped) stopped

-- Both outcomes are runs of one instance to an end or to a pause, each with its log. Two runs that
-- stopped have equally many pops, and the same job and input.
abbrev pub AreHistories : Outcome → Outcome → Type 0
AreHistories (Resampled facts i placed stuck telling) (Resampled told j other rest another) =
    (facts ≡ told) × (i ≡ j) × LeadsToEnd i (records_of placed) stuck
    × LeadsToEnd i (records_of other) rest
AreHistories (Resampled facts i placed stuck telling) (Paused job input told j other) =
    (facts ≡ told) × (i ≡ j) × EndsAndPauses i placed stuck other
AreHistories (Paused job input told j other) (Resampled facts i placed stuck telling) =
    (facts ≡ told) × (i ≡ j) × EndsAndPauses i placed stuck other
AreHistories (Paused job input facts i placed) (Paused asked read told j other) =
    (job ≡ asked) × (input ≡ read) × (facts ≡ told) × (i ≡ j)
    × IsPause i (length other) placed × IsPause i (length other) other
AreHistories o p = ⊥

-- one outcome, or two runs of one instance
abbrev pub Agree : Outcome → Outcome → Type 0
Agree o p = (o ≡ p) ⊎ AreHistories o p

-- Arguments and an input have at most one outcome with watchers that report the same, with two
-- exceptions: the order of pops and their reports for `resample`, and the pops before a pause.
abbrev pub OneOutcome : Type 0
OneOutcome = (words : List (List ℕ)) (watchers others : List Watcher) (text : List ℕ)
    (o p : Outcome) → AskForLike words watchers others
    → IsOutcome words watchers text o → IsOutcome words others text p → Agree o p

-- the layered log that an outcome shows, if any
abbrev pub shown_log : Outcome → Option (List Placed)
shown_log (Ended facts i cursors pops stuck telling) = telling.log
shown_log (Resampled facts i placed stuck telling) = Some placed
shown_log (Paused job input facts i placed) = Some placed
shown_log o = None

-- an answer that shows this log, or none
abbrev pub IsAnswerShowing : List (List ℕ) → List Watcher → List ℕ → Option (List Placed) → ℕ
    → List ℕ → Type 0
IsAnswerShowing words watchers text log status out =
    AnswersBy (λ o. IsOutcome words watchers text o × (shown_log o ≡ log)) status out

-- Arguments, watchers and an input have at most one answer that shows a given log. So `resample`
-- is free only in the order of pops, and a run that stops only in its pops.
abbrev pub OneLoggedAnswer : Type 0
OneLoggedAnswer = (words : List (List ℕ)) (watchers : List Watcher) (text : List ℕ)
    (log : Option (List Placed)) (status other : ℕ) (out out' : List ℕ)
    → IsAnswerShowing words watchers text log status out
    → IsAnswerShowing words watchers text log other out' → (status ≡ other) × (out ≡ out')

-- no event occurs at the end of a run or of a replay, or at the end of each sample of a batch
abbrev pub EndsFinished : Outcome → Type 0
EndsFinished (Ended facts i cursors pops stuck telling) = IsFinished i cursors
EndsFinished (Resampled facts i placed stuck telling) =
    IsFinished i (replay (start_of i) (records_of placed))
EndsFinished (Rounded facts i cursors rounds stuck short) = IsFinished i cursors
EndsFinished (Replayed i cursors records look) = IsFinished i cursors
EndsFinished (Batched facts i ends) = (j : ℕ) (end : End) → slice_get ends j ≡ Some end
    → IsFinished (instance_for j i) end.cursors
EndsFinished o = ⊤

-- If the status of a run is 0, no event occurs at its end. Each clause is satisfied, each vertex
-- has an edge that leaves it, or the arrows have no cycle.
abbrev pub SampleFinished : Type 0
SampleFinished = (words : List (List ℕ)) (watchers : List Watcher) (text : List ℕ) (o : Outcome)
    → IsOutcome words watchers text o → status_of o ≡ 0 → EndsFinished o

-- An outcome of a run that may stop after a number of pops is a pause if and only if each run to
-- an end has more pops. Otherwise it is an end. Except for `resample` this is the end of the
-- one-thread run.
abbrev pub TellsPause : ℕ → Outcome → Type 0
TellsPause most (Paused job input facts i placed) = (log : List LogRecord)
    → RunsToEnd i (start_of i) log → most < length log
TellsPause most (Ended facts i cursors pops stuck telling) =
    IsFirstEnd i cursors pops stuck × (pops ≤ most)
TellsPause most (Resampled facts i placed stuck telling) =
    LeadsToEnd i (records_of placed) stuck × (length placed ≤ most)
TellsPause most o = ⊤

-- this holds for each outcome of such arguments, if all orders of pops lead to one end
abbrev pub PausedExactly : Type 0
PausedExactly = (words : List (List ℕ)) (watchers : List Watcher) (text : List ℕ) (job : Job)
    (most : ℕ) (o : Outcome) → Asks words job → HasOneEnd job.command text → job.pops ≡ Some most
    → IsOutcome words watchers text o → TellsPause most o
