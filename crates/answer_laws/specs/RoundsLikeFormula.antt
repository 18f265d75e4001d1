-- For an extremal formula, `rounds` prints what the run on one thread prints, up to the cursors.
use Rattle.std.specs.Prelude.{◌≡◌, ◌⊎◌, ℕ, List, ◌++◌, None}
use Rattle.pop_words.specs.declared.command.Command.TheVariants.{Formula, Rounds}
use Rattle.pop_words.specs.declared.job.Job.{Job}
use Rattle.pop_words.specs.CommandLines.{Asks}
use Rattle.pop_watch.specs.Telling.{Watcher}
use Rattle.pop_print.specs.Output.{used_line, pops_line}
use Rattle.pop_print.specs.Rounds.{rounds_line}
use Rattle.top_call.specs.Answers.{origin_for, IsAnswer}

-- the first arguments ask for one sample of a formula, the others for one by rounds, over stacks
-- with the same source
pub record AskForRounds (words others : List (List ℕ)) : Type 0 where
  pub job : Job
  pub other : Job
  pub asks : Asks words job
  pub asks_other : Asks others other
  pub command : job.command ≡ Formula
  pub by_rounds : other.command ≡ Rounds
  pub once : job.count ≡ None
  pub origin : origin_for job ≡ origin_for other

-- Both outputs begin with the same lines, up to and including the line of the cursors. After it
-- one has the number of pops, and the other the number of rounds.
pub record AgreeUpToUsed (out out' : List ℕ) : Type 0 where
  pub found : List ℕ
  pub cursors : List ℕ
  pub pops : ℕ
  pub rounds : ℕ
  pub told : List ℕ
  pub out_is : out ≡ found ++ used_line cursors ++ pops_line pops ++ told
  pub other_is : out' ≡ found ++ used_line cursors ++ rounds_line rounds

-- If the answer to such arguments is a sample or an exhausted end, so that the events are
-- extremal, then rounds have the same status. If it is 0, they have the same sample.
abbrev pub RoundsLikeFormula : Type 0
RoundsLikeFormula = (words others : List (List ℕ)) (watchers further : List Watcher)
    (text : List ℕ) (status other : ℕ) (out out' : List ℕ) → AskForRounds words others
    → IsAnswer words watchers text status out → IsAnswer others further text other out'
    → (status ≡ 0) ⊎ (status ≡ 1)
    → (status ≡ other) × (status ≡ 0 → AgreeUpToUsed out out')
