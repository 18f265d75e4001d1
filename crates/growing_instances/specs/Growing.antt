-- Stacks that start with one height and grow to another.
use Rattle.std.specs.Prelude.{ℕ, ◌<◌, ◌≤◌, ◌^◌, List, Option, None, Some, ⊤}
use Rattle.pop_model.specs.Stacks.{StackTable, height_of, IsKeyed, stacks_raised}
use Rattle.pop_model.specs.Families.{Family}
use Rattle.pop_model.specs.Instances.{Instance, instance_raised}
use Rattle.pop_instance.specs.Index.{IsFamilyIndex}

-- the stacks at their last height, if they grow
abbrev pub grown : Option ℕ → StackTable → StackTable
grown None s = s
grown (Some last) s = stacks_raised last s

-- the instance at its last height, if its stacks grow
abbrev pub instance_grown : Option ℕ → Instance → Instance
instance_grown None i = i
instance_grown (Some last) i = instance_raised last i

-- the stacks can grow to the height: they are keyed, and not higher
abbrev pub MayGrowTo : Option ℕ → StackTable → Type 0
MayGrowTo None s = ⊤
MayGrowTo (Some last) s = IsKeyed s.origin × ((v : ℕ) → height_of s v ≤ last) × (last < 2 ^ 31)

-- the index of the family, or nothing if it is not at hand
abbrev pub MayIndex : Family → Option (List (List ℕ)) → Type 0
MayIndex family None = ⊤
MayIndex family (Some index) = IsFamilyIndex family (Some index)
