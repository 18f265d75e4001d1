-- The values of the first variables at their cursors.
use Rattle.std.specs.Prelude.{◌≡◌, ℕ, ◌<◌, List, length, take, slice_index}
use Rattle.pop_model.specs.Stacks.{StackTable, domain_of}
use Rattle.pop_model.specs.Popping.{values_at}

-- these are the values of as many variables from the first one on, and each is a value of its
-- variable
pub record AreFirstValues (s : StackTable) (c values : List ℕ) : Type 0 where
  pub are : values ≡ take (length values) (values_at s c)
  pub within : (v : ℕ) → v < length values → slice_index values v < domain_of s v
