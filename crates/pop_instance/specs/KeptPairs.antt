-- The pairs of a cube, by how they are stored.
use Rattle.std.specs.Prelude.{ℕ, List, ◌≤◌, ⊤, take}
use Rattle.pop_instance.specs.declared.pairs.KeptPairs.{KeptPairs}
use Rattle.pop_instance.specs.declared.pairs.KeptPairs.TheVariants.{Few, Many}

-- the pairs: the first ones of those in place, or those of the list
abbrev pub pairs_kept : KeptPairs → List (ℕ × ℕ)
pairs_kept (Few count pairs) = take count pairs
pairs_kept (Many pairs) = pairs.items

-- at most four pairs are stored in place
abbrev pub AreKept : KeptPairs → Type 0
AreKept (Few count pairs) = count ≤ 4
AreKept (Many pairs) = ⊤
