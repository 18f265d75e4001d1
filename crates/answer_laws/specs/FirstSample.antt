-- The first sample of a batch is the sample that is drawn if no number of samples is asked for.
use Rattle.std.specs.Prelude.{◌≡◌, ◌⊎◌, ℕ, Bool, not, List, ◌++◌, filter, bytes_eq, codes, None, Some}
use Rattle.pop_words.specs.declared.job.Job.{Job}
use Rattle.pop_words.specs.CommandLines.{Choice, Asks}
use Rattle.pop_watch.specs.Telling.{Watcher}
use Rattle.pop_print.specs.Batches.{batch_line, sample_line}
use Rattle.told_runs.specs.Outcomes.{AnswersBy}
use Rattle.top_call.specs.Answers.{ComesOf, IsAnswer}

-- the job without a number of samples
abbrev pub of_one : Job → Job
of_one job = record job { count = None }

-- after the lines of the batch and of its first sample, the output begins with the answer to the
-- job without a number of samples
pub record BeginsWithOne (job : Job) (watchers : List Watcher) (text : List ℕ) (count : ℕ)
    (out : List ℕ) : Type 0 where
  pub first : List ℕ
  pub rest : List ℕ
  pub out_is : out ≡ batch_line count ++ (sample_line 0 ++ (first ++ rest))
  pub status : ℕ
  pub answer : AnswersBy (ComesOf (of_one job) watchers text) status first

-- the same holds for each answer, except errors, to arguments that ask for a number of samples
abbrev pub FirstSample : Type 0
FirstSample = (words : List (List ℕ)) (watchers : List Watcher) (text : List ℕ) (job : Job)
    (count status : ℕ) (out : List ℕ) → Asks words job → job.count ≡ Some count
    → IsAnswer words watchers text status out → (status ≡ 0) ⊎ (status ≡ 1)
    → BeginsWithOne job watchers text count out

-- an option of this name asks for a number of samples
abbrev pub tells_count : List ℕ → Bool
tells_count name = bytes_eq name (codes "--count")

-- the options except `--count`
abbrev pub but_count : List Choice → List Choice
but_count chosen = filter (λ p. not (tells_count p.0.name)) chosen

-- Both arguments are command lines of one command. The options of the others are those of the
-- first except `--count`, in the same order.
pub record DifferInCount (words others : List (List ℕ)) : Type 0 where
  pub job : Job
  pub other : Job
  pub asks : Asks words job
  pub asks_other : Asks others other
  pub command : asks.command ≡ asks_other.command
  pub options : but_count asks.chosen ≡ asks_other.chosen

-- after the lines of the batch and of its first sample, the output begins with an answer to the
-- arguments
pub record BeginsWithAnswer (words : List (List ℕ)) (watchers : List Watcher) (text : List ℕ)
    (count : ℕ) (out : List ℕ) : Type 0 where
  pub first : List ℕ
  pub rest : List ℕ
  pub out_is : out ≡ batch_line count ++ (sample_line 0 ++ (first ++ rest))
  pub status : ℕ
  pub answer : IsAnswer words watchers text status first

-- each answer, except errors, to arguments with `--count` begins in this way with an answer to the
-- arguments without it
abbrev pub FirstSampleOfWords : Type 0
FirstSampleOfWords = (words others : List (List ℕ)) (watchers : List Watcher) (text : List ℕ)
    (job : Job) (count status : ℕ) (out : List ℕ) → DifferInCount words others
    → Asks words job → job.count ≡ Some count
    → IsAnswer words watchers text status out → (status ≡ 0) ⊎ (status ≡ 1)
    → BeginsWithAnswer others watchers text count out
