-- Arguments with stacks that grow up to a height, and arguments with stacks of that height from
-- the start.
use Rattle.std.specs.Prelude.{◌≡◌, ℕ, Bool, not, ◌||◌, List, filter, bytes_eq, codes, None}
use Rattle.pop_words.specs.declared.job.Job.{Job}
use Rattle.pop_words.specs.CommandLines.{Choice, Asks}
use Rattle.pop_watch.specs.Telling.{Watcher}
use Rattle.top_call.specs.Answers.{last_height, IsAnswer}

-- the job with stacks that have their last height from the start
abbrev pub at_last_height : Job → Job
at_last_height job = record job { height = last_height job; grow = None }

-- The arguments ask for jobs that become equal if the stacks of each have their last height from
-- the start. Arguments with `--height H --grow T` and with `--height T` in its place do so.
pub record DifferInStages (words others : List (List ℕ)) : Type 0 where
  pub job : Job
  pub other : Job
  pub asks : Asks words job
  pub asks_other : Asks others other
  pub same : at_last_height job ≡ at_last_height other

-- such arguments have the same answers to each input, with any watchers
abbrev pub GrownAlike : Type 0
GrownAlike = (words others : List (List ℕ)) (watchers : List Watcher) (text : List ℕ) (status : ℕ)
    (out : List ℕ) → DifferInStages words others → IsAnswer words watchers text status out
    → IsAnswer others watchers text status out

-- an option of this name sets a height
abbrev pub tells_height : List ℕ → Bool
tells_height name = bytes_eq name (codes "--height") || bytes_eq name (codes "--grow")

-- the options except `--height` and `--grow`
abbrev pub but_heights : List Choice → List Choice
but_heights chosen = filter (λ p. not (tells_height p.0.name)) chosen

-- Both arguments are command lines of one command. Their options except `--height` and `--grow`
-- are the same, in the same order. Their stacks have the same last height.
pub record DifferInHeights (words others : List (List ℕ)) : Type 0 where
  pub job : Job
  pub other : Job
  pub asks : Asks words job
  pub asks_other : Asks others other
  pub command : asks.command ≡ asks_other.command
  pub options : but_heights asks.chosen ≡ but_heights asks_other.chosen
  pub last : last_height job ≡ last_height other

-- such arguments have the same answers to each input, with any watchers
abbrev pub StagesAgree : Type 0
StagesAgree = (words others : List (List ℕ)) (watchers : List Watcher) (text : List ℕ) (status : ℕ)
    (out : List ℕ) → DifferInHeights words others → IsAnswer words watchers text status out
    → IsAnswer others watchers text status out
