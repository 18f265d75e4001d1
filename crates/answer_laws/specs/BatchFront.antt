-- Batches of one key: a smaller batch is the beginning of a larger one.
use Rattle.std.specs.Prelude.{◌≡◌, ◌⊎◌, ℕ, ◌≤◌, List, ◌++◌, Some}
use Rattle.pop_words.specs.declared.job.Job.{Job}
use Rattle.pop_words.specs.CommandLines.{Asks}
use Rattle.pop_watch.specs.Telling.{Watcher}
use Rattle.pop_print.specs.Batches.{batch_line}
use Rattle.top_call.specs.Answers.{IsAnswer}
use Rattle.answer_laws.specs.FirstSample.{of_one}

-- the arguments ask for jobs that are the same except for the number of samples
pub record DifferInCounts (words others : List (List ℕ)) (few many : ℕ) : Type 0 where
  pub job : Job
  pub other : Job
  pub asks : Asks words job
  pub asks_other : Asks others other
  pub same : of_one job ≡ of_one other
  pub few_are : job.count ≡ Some few
  pub many_are : other.count ≡ Some many

-- After the lines with the number of samples, the output of the larger batch begins with that of
-- the smaller one.
pub record BeginsWithFew (few many : ℕ) (out longer : List ℕ) : Type 0 where
  pub front : List ℕ
  pub rest : List ℕ
  pub out_is : out ≡ batch_line few ++ front
  pub longer_is : longer ≡ batch_line many ++ (front ++ rest)

-- Answers that are not errors: the answer to arguments that ask for more samples begins with the
-- answer to those that ask for fewer. Sample j is the same in each batch that has it.
abbrev pub BatchFront : Type 0
BatchFront = (words others : List (List ℕ)) (watchers : List Watcher) (text : List ℕ)
    (few many status status' : ℕ) (out longer : List ℕ) → DifferInCounts words others few many
    → few ≤ many
    → IsAnswer words watchers text status out → (status ≡ 0) ⊎ (status ≡ 1)
    → IsAnswer others watchers text status' longer → (status' ≡ 0) ⊎ (status' ≡ 1)
    → BeginsWithFew few many out longer
