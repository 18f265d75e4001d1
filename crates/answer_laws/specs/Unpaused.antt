-- A run that paused and is resumed has the answer of a run that did not pause.
use Rattle.std.specs.Prelude.{◌≡◌, ◌≤◌, ◌^◌, ℕ, Bool, not, List, length, filter, bytes_eq, codes, Some}
use Rattle.pop_words.specs.declared.command.Command.TheVariants.{Resume}
use Rattle.pop_words.specs.declared.job.Job.{Job}
use Rattle.pop_words.specs.CommandLines.{Choice, Asks}
use Rattle.pop_watch.specs.Telling.{Watcher}
use Rattle.run_cert.specs.Certificates.{Certificate, IsCertOf}
use Rattle.top_call.specs.Replays.{cert_limit}
use Rattle.top_call.specs.Answers.{IsAnswer}
use Rattle.answer_laws.specs.Resumed.{AskFor}

-- an option of this name stops a run after a number of pops
abbrev pub tells_pops : List ℕ → Bool
tells_pops name = bytes_eq name (codes "--pops")

-- the options except `--pops`
abbrev pub but_pops : List Choice → List Choice
but_pops chosen = filter (λ p. not (tells_pops p.0.name)) chosen

-- The first arguments ask for a run that may stop. The others are the command line of the same
-- command with the same options except `--pops`, in the same order.
pub record DifferInPops (words others : List (List ℕ)) : Type 0 where
  pub job : Job
  pub other : Job
  pub asks : Asks words job
  pub asks_other : Asks others other
  pub command : asks.command ≡ asks_other.command
  pub options : but_pops asks.chosen ≡ asks_other.chosen
  pub pops : ℕ
  pub stops : job.pops ≡ Some pops

-- the bytes are within the limit for certificates, and the log text in them is within the limit
-- for logs
pub record IsShortCert (bytes : List ℕ) : Type 0 where
  pub short : length bytes ≤ cert_limit
  pub log_short : (cert : Certificate) → IsCertOf bytes cert → length cert.log_text ≤ 2 ^ 28

-- If the run of arguments pauses, each answer of `resume` to the certificate is an answer to the
-- arguments without `--pops`, with the same input.
abbrev pub ResumedUnpaused : Type 0
ResumedUnpaused = (words resumes others : List (List ℕ)) (watchers further : List Watcher)
    (text cert : List ℕ) (status : ℕ) (out : List ℕ) → DifferInPops words others
    → IsAnswer words watchers text 10 cert → IsShortCert cert → AskFor resumes Resume
    → IsAnswer resumes further cert status out → IsAnswer others further text status out
