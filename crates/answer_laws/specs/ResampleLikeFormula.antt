-- If the events of a formula don't clash, `resample` prints what `formula` prints with its log.
use Rattle.std.specs.Prelude.{◌≡◌, ◌⊎◌, ℕ, true, List, None}
use Rattle.pop_words.specs.declared.command.Command.TheVariants.{Formula, Resample}
use Rattle.pop_words.specs.declared.job.Job.{Job}
use Rattle.pop_words.specs.CommandLines.{Asks}
use Rattle.pop_watch.specs.Telling.{Watcher}
use Rattle.top_call.specs.Answers.{IsAnswer}

-- The first arguments ask for a sample of a formula with its log, and the others for `resample`,
-- with an otherwise equal job.
pub record AskToResample (words others : List (List ℕ)) : Type 0 where
  pub job : Job
  pub other : Job
  pub asks : Asks words job
  pub asks_other : Asks others other
  pub samples : job.command ≡ Formula
  pub logs : job.log ≡ true
  pub once : job.count ≡ None
  pub same : record job { command = Resample } ≡ other

-- the arguments have this output too, with this status, or with 6 if no pop used the entry of the
-- witness
pub record IsPrintedToo (words : List (List ℕ)) (watchers : List Watcher) (text : List ℕ)
    (status : ℕ) (out : List ℕ) : Type 0 where
  pub own : ℕ
  pub answer : IsAnswer words watchers text own out
  pub statuses : (own ≡ status) ⊎ (own ≡ 6)

-- What `formula` prints with its log, `resample` prints too. `resample` has no other answer
-- (`one_answer`).
abbrev pub ResampleLikeFormula : Type 0
ResampleLikeFormula = (words others : List (List ℕ)) (watchers : List Watcher)
    (text out : List ℕ) (status : ℕ) → AskToResample words others
    → IsAnswer words watchers text status out → (status ≡ 0) ⊎ (status ≡ 1)
    → IsPrintedToo others watchers text status out
