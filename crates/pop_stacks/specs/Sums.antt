-- Running sums, by how they are stored.
use Rattle.std.specs.Prelude.{ℕ, List, [], ◌∷◌, replicate}
use Rattle.pop_stacks.specs.declared.sums.KeptSums.{KeptSums}
use Rattle.pop_stacks.specs.declared.sums.KeptSums.TheVariants.{Pairs, Rows}

-- the running sums of each variable
abbrev pub sums_of : KeptSums → List (List ℕ)
sums_of (Pairs count) = replicate count (1 ∷ 2 ∷ [])
sums_of (Rows rows) = rows
