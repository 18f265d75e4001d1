-- Arguments that ask for a lock.
use Rattle.std.proofs.Common.{◌≡◌, ◌∙◌, ◌↔◌, ℕ, Bool, true, false, List, IsTrue, ap}
use Rattle.pop_words.specs.declared.board_kind.BoardKind.TheVariants.{Lock}
use Rattle.pop_words.specs.declared.job.Job.{Job}
use Rattle.pop_words.specs.CommandLines.{Asks, IsBadPlace}
use Rattle.pop_words.proofs.OneJob.{same_job}
use Rattle.top_call.specs.Locks.{AskForLock}

-- the arguments specify one job, so its board decides
pub by_board : (words : List (List ℕ)) (job : Job) (asks : Bool) → Asks words job
    → (IsTrue asks ↔ (job.board ≡ Lock)) → (IsTrue asks ↔ AskForLock words)
by_board words job asks is board = (
  λ t. (job, is, board.0 t),
  λ other. board.1 (ap (λ (j : Job). j.board) (same_job words job other.0 is other.1) ∙ other.2),
)

false_true : false ≡ true → ⊥
false_true e = cc

-- invalid arguments specify no job
pub none_bad : (words : List (List ℕ)) (place : ℕ) → IsBadPlace words place
    → (IsTrue false ↔ AskForLock words)
none_bad words place bad = (
  λ t. absurd (false_true t),
  λ asks. absurd (bad.outside (asks.0, asks.1)),
)
