-- Every line has an answer. Valid input has an answer of a run.
use Rattle.std.specs.Prelude.{◌≡◌, ◌≢◌, ◌⊎◌, ℕ, List, None}
use Rattle.pop_words.specs.declared.job.Job.{Job}
use Rattle.pop_words.specs.CommandLines.{Asks}
use Rattle.pop_watch.specs.Telling.{Watcher}
use Rattle.top_call.specs.Answers.{IsAnswer}
use Rattle.answer_laws.specs.Complete.{CanBeDone, IsDone}

-- arguments, watchers and a text have an answer: some status and some output
pub record HaveAnswer (words : List (List ℕ)) (watchers : List Watcher) (text : List ℕ)
    : Type 0 where
  pub status : ℕ
  pub out : List ℕ
  pub answer : IsAnswer words watchers text status out

-- all arguments, watchers and texts have an answer
abbrev pub AlwaysAnswered : Type 0
AlwaysAnswered = (words : List (List ℕ)) (watchers : List Watcher) (text : List ℕ)
    → HaveAnswer words watchers text

-- the status of a run, or 6 if a witness is asked for, since its pop may not exist
abbrev pub IsDoneOrMissing : Job → ℕ → Type 0
IsDoneOrMissing job status = IsDone job status ⊎ ((status ≡ 6) × (job.witness ≢ None))

-- there is an answer, and each answer has such a status
pub record HaveDoneAnswers (job : Job) (words : List (List ℕ)) (watchers : List Watcher)
    (text : List ℕ) : Type 0 where
  pub some : HaveAnswer words watchers text
  pub each : (status : ℕ) (out : List ℕ) → IsAnswer words watchers text status out
      → IsDoneOrMissing job status

-- this holds if no error applies to the job of the arguments and to the text
abbrev pub ValidAnswered : Type 0
ValidAnswered = (words : List (List ℕ)) (watchers : List Watcher) (text : List ℕ) (job : Job)
    → Asks words job → CanBeDone job.command job text → HaveDoneAnswers job words watchers text
