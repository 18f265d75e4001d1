-- Weights, by how they are stored.
use Rattle.std.specs.Prelude.{ℕ, List, [], ◌∷◌, replicate}
use Rattle.pop_stacks.specs.declared.weights.KeptWeights.{KeptWeights}
use Rattle.pop_stacks.specs.declared.weights.KeptWeights.TheVariants.{Pairs, Rows}

-- the weights of each variable
abbrev pub weights_of : KeptWeights → List (List ℕ)
weights_of (Pairs count) = replicate count (1 ∷ 1 ∷ [])
weights_of (Rows rows) = rows
