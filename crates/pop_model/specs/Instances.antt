-- An instance: stacks, and a family of events over their variables.
use Rattle.std.specs.Prelude.{◌≡◌, ℕ, ◌<◌, ◌^◌, [], length, slice_index_or, All}
use Rattle.pop_model.specs.Stacks.{StackTable, variables_of, domain_of, stacks_for, stacks_raised, IsTable}
use Rattle.pop_model.specs.Popping.{Cube}
use Rattle.pop_model.specs.Families.{Family, IsFamily, units_of}
use Rattle.pop_model.specs.Families.Family.{Listed, Cycles}

-- the variables' stacks, and the bad events
pub record Instance : Type 0 where
  pub stacks : StackTable
  pub family : Family

-- the instance for another sample
abbrev pub instance_for : ℕ → Instance → Instance
instance_for j i = record { stacks = stacks_for j i.stacks; family = i.family }

-- the instance with another height of its keyed stacks
abbrev pub instance_raised : ℕ → Instance → Instance
instance_raised h i = record { stacks = stacks_raised h i.stacks; family = i.family }

-- the cube names variables and values that the stacks have
abbrev pub FitsStacks : StackTable → Cube → Type 0
FitsStacks s e = All (λ p. (p.0 < variables_of s) × (p.1 < domain_of s p.0)) e

-- each cube fits the stacks, or each variable has one slot for each of its values
abbrev pub FamilyFits : StackTable → Family → Type 0
FamilyFits s (Listed rows) = All (λ r. FitsStacks s r.1) rows
FamilyFits s (Cycles heads) =
    (length heads ≡ variables_of s)
    × ((v : ℕ) → v < length heads → length (slice_index_or heads v []) ≡ domain_of s v)

-- what holds of every instance
pub record IsInstance (i : Instance) : Type 0 where
  pub family : IsFamily i.family
  pub fits : FamilyFits i.stacks i.family
  pub table : IsTable i.stacks
  pub units : units_of i.family < 2 ^ 31
