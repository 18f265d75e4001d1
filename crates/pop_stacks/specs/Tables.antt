-- The stacks of a source, a height and weights.
use Rattle.std.specs.Prelude.{ℕ, List}
use Rattle.rand_chacha.specs.ChaCha.{key_of}
use Rattle.pop_model.specs.Stacks.{Origin, StackTable}
use Rattle.pop_model.specs.Stacks.Origin.{Given as GivenRows, Keyed}
use Rattle.pop_stacks.specs.declared.stack_spec.StackSpec.{StackSpec}
use Rattle.pop_stacks.specs.declared.stack_spec.StackSpec.TheVariants.{Given, Key}

-- the source of the entries; only keyed stacks use the height
abbrev pub sample_origin : ℕ → StackSpec → ℕ → Origin
sample_origin sample (Given rows) height = GivenRows rows
sample_origin sample (Key key) height = Keyed (key_of key) sample height

-- the stacks of this source, under these weights
abbrev pub sample_table : ℕ → StackSpec → ℕ → List (List ℕ) → StackTable
sample_table sample spec height weights =
    record { origin = sample_origin sample spec height; weights = weights }

-- if no sample was chosen, it is number 0
abbrev pub origin_of : StackSpec → ℕ → Origin
origin_of spec height = sample_origin 0 spec height

-- if no sample was chosen, the stacks are those of number 0
abbrev pub table_of : StackSpec → ℕ → List (List ℕ) → StackTable
table_of spec height weights = sample_table 0 spec height weights
