-- Arguments with greater heights: a sample stays the same, byte for byte.
use Rattle.std.specs.Prelude.{◌≡◌, ℕ, ◌≤◌, List, Contains, None}
use Rattle.pop_stacks.specs.declared.stack_spec.StackSpec.TheVariants.{Key}
use Rattle.pop_words.specs.declared.command.Command.TheVariants.{Rounds}
use Rattle.pop_words.specs.declared.job.Job.{Job}
use Rattle.pop_words.specs.Options.{quiet}
use Rattle.pop_words.specs.CommandLines.{Asks}
use Rattle.pop_watch.specs.Telling.{Watcher}
use Rattle.top_call.specs.Answers.{last_height, IsAnswer}

-- the job without its heights
abbrev pub of_any_height : Job → Job
of_any_height job = record job { height = 0; grow = None }

-- The arguments ask for jobs that are the same except for the heights of their stacks. The last
-- height of the others is not lower.
pub record DifferInLastHeight (words others : List (List ℕ)) : Type 0 where
  pub job : Job
  pub other : Job
  pub asks : Asks words job
  pub asks_other : Asks others other
  pub same : of_any_height job ≡ of_any_height other
  pub no_lower : last_height job ≤ last_height other

-- If the answer of `formula`, `orient`, `tree` or `make` under a key has status 0, it is a sample
-- or a batch of samples. It is also the answer with each greater height. So a second attempt with
-- taller stacks, after stacks were exhausted, changes no sample.
abbrev pub TallerAnswers : Type 0
TallerAnswers = (words others : List (List ℕ)) (watchers : List Watcher) (key text out : List ℕ)
    → (d : DifferInLastHeight words others) → Contains quiet d.job.command → d.job.stacks ≡ Key key
    → IsAnswer words watchers text 0 out → IsAnswer others watchers text 0 out

-- The same holds for an assignment that `rounds` prints, for every formula.
abbrev pub TallerRoundAnswers : Type 0
TallerRoundAnswers = (words others : List (List ℕ)) (watchers : List Watcher)
    (key text out : List ℕ) → (d : DifferInLastHeight words others) → d.job.command ≡ Rounds
    → d.job.stacks ≡ Key key → IsAnswer words watchers text 0 out → IsAnswer others watchers text 0 out
