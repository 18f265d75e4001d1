-- Numbers, by how they are stored.
use Rattle.std.specs.Prelude.{ℕ, List}
use Rattle.pop_instance.specs.declared.values.KeptNumbers.{KeptNumbers}
use Rattle.pop_instance.specs.declared.values.KeptNumbers.TheVariants.{Bytes, Words}

-- the numbers, one byte or four bytes each
abbrev pub numbers_of : KeptNumbers → List ℕ
numbers_of (Bytes numbers) = numbers.items
numbers_of (Words numbers) = numbers.items
