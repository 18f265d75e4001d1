-- If `replay` accepts a certificate, `resume` answers it as its command line is answered.
use Rattle.std.specs.Prelude.{◌≡◌, ℕ, List}
use Rattle.pop_words.specs.declared.board_kind.BoardKind.TheVariants.{Words}
use Rattle.pop_words.specs.declared.command.Command.{Command}
use Rattle.pop_words.specs.declared.command.Command.TheVariants.{Replay, Resume}
use Rattle.pop_words.specs.declared.job.Job.{Job}
use Rattle.pop_words.specs.CommandLines.{Asks}
use Rattle.pop_watch.specs.Telling.{Watcher}
use Rattle.run_cert.specs.Heads.{Head}
use Rattle.run_cert.specs.Certificates.{Certificate, IsCertOf}
use Rattle.told_runs.specs.Outcomes.{HasRun}
use Rattle.top_call.specs.Replays.{job_of}
use Rattle.top_call.specs.Answers.{IsAnswer}

-- the arguments ask for this command
abbrev pub AskFor : List (List ℕ) → Command → Type 0
AskFor words command = (job : Job) × Asks words job × (job.command ≡ command)

-- the arguments ask for the command of a head over its stacks, with its height and its root, and
-- with no option except for workers and their board
abbrev pub AskForLineOf : List (List ℕ) → Head → Type 0
AskForLineOf words head =
    (job : Job) × Asks words job × (record job { workers = 1; board = Words } ≡ job_of head)

-- `replay` accepts the bytes: it prints the state of their run
pub record AcceptsReplay (bytes : List ℕ) : Type 0 where
  pub words : List (List ℕ)
  pub asks : AskFor words Replay
  pub watchers : List Watcher
  pub status : ℕ
  pub out : List ℕ
  pub answer : IsAnswer words watchers bytes status out
  pub has_run : HasRun status

-- `resume`, with any workers and board, answers such a certificate as its command line is answered
-- on its input
abbrev pub ResumedAlike : Type 0
ResumedAlike = (words others : List (List ℕ)) (watchers : List Watcher) (bytes : List ℕ)
    (cert : Certificate) (status : ℕ) (out : List ℕ) → AcceptsReplay bytes → IsCertOf bytes cert
    → AskFor words Resume → AskForLineOf others cert.head
    → IsAnswer words watchers bytes status out → IsAnswer others watchers cert.input status out
