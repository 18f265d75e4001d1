-- Running sums of rows of numbers.
use Rattle.std.specs.Prelude.{ℕ, ◌+◌, ◌^◌, ◌<◌, ◌≤◌, List, [], ◌∷◌, length, sum}
use Rattle.pop_rows.specs.FlatRows.{row_at}

-- the running sums of the numbers, added to a number
abbrev pub running : ℕ → List ℕ → List ℕ
running total [] = []
running total (w ∷ weights) = (total + w) ∷ running (total + w) weights

-- the numbers of row v sum to more than 2 ^ 32 - 1
abbrev pub IsTooHeavy : List (List ℕ) → ℕ → Type 0
IsTooHeavy rows v = (v < length rows) × (2 ^ 32 ≤ sum (row_at rows v))

-- the numbers of each row sum to less than 2 ^ 32
abbrev pub AreLight : List (List ℕ) → Type 0
AreLight rows = (v : ℕ) → v < length rows → sum (row_at rows v) < 2 ^ 32
