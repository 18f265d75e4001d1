-- Frames: what is fixed before the entries are chosen. The rows of a frame are stacks, and the
-- theorems count how many of them finish with each sample.
use Rattle.std.specs.Prelude.{◌≡◌, ℕ, ◌<◌, List, [], length, map, slice_index, All}
use Rattle.pop_model.specs.Stacks.{StackTable, row_of}
use Rattle.pop_model.specs.Stacks.Origin.{Given}
use Rattle.pop_model.specs.Families.{Family, IsFamily}
use Rattle.pop_model.specs.Instances.{Instance, FamilyFits}
use Rattle.pop_samples.specs.Finishing.{IsSample}

-- the entries of each variable
abbrev pub Rows : Type 0
Rows = List (List ℕ)

-- the events, the weights of each variable's values, and the number of entries of each variable
pub record Frame : Type 0 where
  pub family : Family
  pub weights : List (List ℕ)
  pub heights : List ℕ

-- the stacks of these rows
abbrev pub stacks_of : Frame → Rows → StackTable
stacks_of f rows = record { origin = Given rows; weights = f.weights }

-- the instance of these rows
abbrev pub over : Frame → Rows → Instance
over f rows = record { stacks = stacks_of f rows; family = f.family }

-- a family that fits the variables, each of which has at least one entry
pub record IsFrame (f : Frame) : Type 0 where
  pub family : IsFamily f.family
  pub fits : FamilyFits (stacks_of f []) f.family
  pub count : length f.heights ≡ length f.weights
  pub some : All (λ h. 0 < h) f.heights

-- rows of these heights, with entries that are values that have weights
pub record AreRows (weights : List (List ℕ)) (heights : List ℕ) (rows : Rows) : Type 0 where
  pub lengths : map length rows ≡ heights
  pub values : (v k : ℕ) → v < length rows → k < length (row_of rows v)
      → slice_index (row_of rows v) k < length (row_of weights v)

-- one value for each variable, which form a sample
pub record IsSampleOf (f : Frame) (w : List ℕ) : Type 0 where
  pub count : length w ≡ length f.weights
  pub values : (v : ℕ) → v < length w → slice_index w v < length (row_of f.weights v)
  pub sample : IsSample f.family (slice_index w)
