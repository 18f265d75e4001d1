-- Stacks that are rejected: too many samples are requested, or an entry or a weight is invalid.
use Rattle.std.specs.Prelude.{◌≡◌, ◌⊎◌, ℕ, ◌*◌, ◌<◌, ◌≤◌, ◌^◌, List, length, Option, Some, ⊤}
use Rattle.pop_model.specs.Stacks.{Origin}
use Rattle.pop_stacks.specs.Faults.{IsCause}
use Rattle.pop_stacks.specs.declared.stack_fault.StackFault.{StackFault}
use Rattle.pop_stacks.specs.declared.stack_fault.StackFault.TheVariants.{RowCount as WrongRowCount, EmptyRow as NoEntry, ValueTooLarge as LargeValue, WeightSum as HeavyWeights, OutOfMemory as StackMemory}
use Rattle.pop_print.specs.declared.facts.Facts.{Facts}
use Rattle.pop_print.specs.Names.{name_of}
use Rattle.job_subjects.specs.declared.stop.Stop.TheVariants.{OutOfMemory}
use Rattle.job_subjects.specs.declared.refusal.Refusal.{Refusal}
use Rattle.job_subjects.specs.declared.refusal.Refusal.TheVariants.{TooMany, RowCount, EmptyRow, ValueTooLarge, WeightSum, Stopped}

-- a fault of stacks, with the printed name of its variable; entries count from 0
abbrev pub unsound : Facts → StackFault → Refusal
unsound facts (WrongRowCount given wanted) = RowCount given wanted
unsound facts (NoEntry v) = EmptyRow (name_of facts v)
unsound facts (LargeValue v k) = ValueTooLarge (name_of facts v) k
unsound facts (HeavyWeights v) = WeightSum (name_of facts v)
unsound facts StackMemory = Stopped OutOfMemory

-- the variable of the fault is below 2 ^ 31
abbrev pub HasName : StackFault → Type 0
HasName (NoEntry v) = v < 2 ^ 31
HasName (LargeValue v k) = v < 2 ^ 31
HasName (HeavyWeights v) = v < 2 ^ 31
HasName fault = ⊤

-- the stacks of these weights have a fault, which is the error
pub record AreFaulty (facts : Facts) (origin : Origin) (weights : List (List ℕ))
    (refusal : Refusal) : Type 0 where
  pub fault : StackFault
  pub cause : IsCause origin weights fault
  pub is : refusal ≡ unsound facts fault

-- this many samples of this many variables are more than a batch may have (this project's choice)
abbrev pub IsTooMany : ℕ → ℕ → Type 0
IsTooMany count variables = 2 ^ 25 < count * variables

-- the requested number of samples, if there is one, is not too large
abbrev pub AreFew : Option ℕ → ℕ → Type 0
AreFew asked variables = (count : ℕ) → asked ≡ Some count → count * variables ≤ 2 ^ 25

-- the requested number of samples is too large for this many variables, and this is the error
pub record AreTooMany (asked : Option ℕ) (variables : ℕ) (refusal : Refusal) : Type 0 where
  pub count : ℕ
  pub asked_is : asked ≡ Some count
  pub many : IsTooMany count variables
  pub is : refusal ≡ TooMany count

-- too many samples of these variables, or otherwise a fault of the stacks of these weights
abbrev pub RefusesStacks : Facts → Origin → List (List ℕ) → Option ℕ → Refusal → Type 0
RefusesStacks facts origin weights asked refusal =
    AreTooMany asked (length weights) refusal
    ⊎ (AreFaulty facts origin weights refusal × AreFew asked (length weights))
