-- The cursors at which logs finish, and the values there: the samples of a family.
use Rattle.std.specs.Prelude.{◌≡◌, ℕ, ◌<◌, List, All}
use Rattle.pop_model.specs.Stacks.{StackTable, variables_of, value_at}
use Rattle.pop_model.specs.Popping.{cursor}
use Rattle.pop_model.specs.Families.{Event, Family, IsEvent}
use Rattle.pop_model.specs.Instances.{Instance}
use Rattle.pop_model.specs.Logs.{LogRecord, IsLegal, replay}
use Rattle.pop_model.specs.Runs.{IsFinished, start_of}

-- the log is legal from zeros and leads to these cursors, and no event occurs there
pub record FinishesBy (i : Instance) (log : List LogRecord) (c : List ℕ) : Type 0 where
  pub legal : IsLegal i (start_of i) log
  pub leads : replay (start_of i) log ≡ c
  pub finished : IsFinished i c

-- some log finishes at these cursors
abbrev pub FinishesAt : Instance → List ℕ → Type 0
FinishesAt i c = (log : List LogRecord) × FinishesBy i log c

-- A sample: no event of the family has all its values among these, which are one for each variable
-- (Guo, Jerrum and Liu 2019: an assignment under which no bad event holds).
abbrev pub IsSample : Family → (ℕ → ℕ) → Type 0
IsSample family w = (e : Event) → IsEvent family e → All (λ p. w p.0 ≡ p.1) e.cube → ⊥

-- the instance with these stacks in place of its own
abbrev pub with_stacks : Instance → StackTable → Instance
with_stacks i t = record { stacks = t; family = i.family }

-- the same number of variables, and the same entries below these cursors
pub record AgreeBelow (c : List ℕ) (s t : StackTable) : Type 0 where
  pub count : variables_of s ≡ variables_of t
  pub values : (v k : ℕ) → k < cursor c v → value_at s v k ≡ value_at t v k
