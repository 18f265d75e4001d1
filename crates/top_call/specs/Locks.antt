-- Arguments that ask for a lock.
use Rattle.std.specs.Prelude.{◌≡◌, ℕ, List}
use Rattle.pop_words.specs.declared.board_kind.BoardKind.TheVariants.{Lock}
use Rattle.pop_words.specs.declared.job.Job.{Job}
use Rattle.pop_words.specs.CommandLines.{Asks}

-- the arguments specify a job with a book under a lock
abbrev pub AskForLock : List (List ℕ) → Type 0
AskForLock words = (job : Job) × Asks words job × (job.board ≡ Lock)
