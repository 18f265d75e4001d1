-- Arguments that differ only in the number of workers and in their board.
use Rattle.std.specs.Prelude.{◌≡◌, ℕ, Bool, not, ◌||◌, List, filter, bytes_eq, codes}
use Rattle.pop_words.specs.declared.job.Job.{Job}
use Rattle.pop_words.specs.CommandLines.{Choice, Asks}
use Rattle.pop_watch.specs.Telling.{Watcher}
use Rattle.top_call.specs.Answers.{IsAnswer}
use Rattle.answer_laws.specs.Laws.{AskForOneEnd, AskForLikeReports}

-- an option of this name sets the number of workers or their board
abbrev pub tells_crew : List ℕ → Bool
tells_crew name = bytes_eq name (codes "--workers") || bytes_eq name (codes "--board")

-- the options except `--workers` and `--board`
abbrev pub but_workers : List Choice → List Choice
but_workers chosen = filter (λ p. not (tells_crew p.0.name)) chosen

-- Both arguments are command lines of one command. Their options except `--workers` and `--board`
-- are the same, in the same order.
pub record DifferInWorkers (words others : List (List ℕ)) : Type 0 where
  pub job : Job
  pub other : Job
  pub asks : Asks words job
  pub asks_other : Asks others other
  pub command : asks.command ≡ asks_other.command
  pub options : but_workers asks.chosen ≡ but_workers asks_other.chosen

-- Such arguments have at most one answer to an input with watchers that report the same, if all
-- orders of pops lead to one end and no run may stop before it.
abbrev pub WorkersAgree : Type 0
WorkersAgree = (words others : List (List ℕ)) (watchers further : List Watcher) (text : List ℕ)
    (status other : ℕ) (out out' : List ℕ) → DifferInWorkers words others
    → AskForOneEnd words text → AskForLikeReports words watchers further
    → IsAnswer words watchers text status out → IsAnswer others further text other out'
    → (status ≡ other) × (out ≡ out')
