-- The faults of entries and weights, and which fault is reported.
use Rattle.std.specs.Prelude.{◌≡◌, ◌≢◌, ℕ, ◌<◌, ◌≤◌, List, length, slice_index, ⊤}
use Rattle.pop_model.specs.Stacks.{Origin, row_of}
use Rattle.pop_model.specs.Stacks.Origin.{Given, Keyed}
use Rattle.pop_model.specs.Places.{IsLeast, IsLeastPair}
pub use Rattle.pop_rows.specs.PrefixSums.{IsTooHeavy, AreLight}
use Rattle.pop_stacks.specs.declared.stack_fault.StackFault.{StackFault}
use Rattle.pop_stacks.specs.declared.stack_fault.StackFault.TheVariants.{RowCount, EmptyRow, ValueTooLarge, WeightSum}

-- row v has no entry
abbrev pub IsEmptyRow : List (List ℕ) → ℕ → Type 0
IsEmptyRow rows v = (v < length rows) × (length (row_of rows v) ≡ 0)

-- entry k of row v is not a value of variable v, which are the numbers below the number of its
-- weights
pub record IsTooLarge (rows weights : List (List ℕ)) (v k : ℕ) : Type 0 where
  pub row : v < length rows
  pub place : k < length (row_of rows v)
  pub large : length (row_of weights v) ≤ slice_index (row_of rows v) k

-- each row has an entry
abbrev pub HaveEntries : List (List ℕ) → Type 0
HaveEntries rows = (v : ℕ) → v < length rows → 0 < length (row_of rows v)

-- each entry is a value of its variable
abbrev pub HaveValues : List (List ℕ) → List (List ℕ) → Type 0
HaveValues rows weights = (v k : ℕ) → v < length rows → k < length (row_of rows v)
    → slice_index (row_of rows v) k < length (row_of weights v)

-- rows without a fault: one for each variable, with entries that are values of it
pub record AreSoundRows (rows weights : List (List ℕ)) : Type 0 where
  pub count : length rows ≡ length weights
  pub entries : HaveEntries rows
  pub values : HaveValues rows weights

-- given rows are without a fault; a key has no rows
abbrev pub HasSoundRows : Origin → List (List ℕ) → Type 0
HasSoundRows (Given rows) weights = AreSoundRows rows weights
HasSoundRows (Keyed key sample height) weights = ⊤

-- there is no fault at all
pub record IsSound (origin : Origin) (weights : List (List ℕ)) : Type 0 where
  pub rows : HasSoundRows origin weights
  pub light : AreLight weights

-- why stacks cannot be made: the first fault in the order of `StackFault`, at its lowest place
abbrev pub IsCause : Origin → List (List ℕ) → StackFault → Type 0
IsCause (Given rows) weights (RowCount given wanted) =
    (given ≡ length rows) × (wanted ≡ length weights) × (given ≢ wanted)
IsCause (Given rows) weights (EmptyRow v) =
    (length rows ≡ length weights) × IsLeast (IsEmptyRow rows) v
IsCause (Given rows) weights (ValueTooLarge v k) =
    (length rows ≡ length weights) × HaveEntries rows × IsLeastPair (IsTooLarge rows weights) v k
IsCause origin weights (WeightSum v) =
    HasSoundRows origin weights × IsLeast (IsTooHeavy weights) v
-- a key has no rows, and no memory is allocated
IsCause origin weights fault = ⊥
