-- The weights of rows and of samples: the products of the weights of their values. If each entry
-- is drawn independently by the weights, they are proportional to the probabilities.
use Rattle.std.specs.Prelude.{ℕ, ◌*◌, List, [], ◌∷◌, slice_index}
use Rattle.pop_samples.specs.Frames.{Rows}

-- the product of the weights of a row's entries
abbrev pub row_weight : List ℕ → List ℕ → ℕ
row_weight weights [] = 1
row_weight weights (x ∷ row) = slice_index weights x * row_weight weights row

-- the product of the weights of all entries
abbrev pub weight_of : List (List ℕ) → Rows → ℕ
weight_of weights [] = 1
weight_of [] (row ∷ rows) = 1
weight_of (w ∷ weights) (row ∷ rows) = row_weight w row * weight_of weights rows

-- the product of the weights of these values, one for each variable
abbrev pub sample_weight : List (List ℕ) → List ℕ → ℕ
sample_weight weights [] = 1
sample_weight [] (x ∷ w) = 1
sample_weight (ws ∷ weights) (x ∷ w) = slice_index ws x * sample_weight weights w
