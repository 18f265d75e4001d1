-- Rows of numbers, as lists.
use Rattle.std.specs.Prelude.{ℕ, ◌<◌, ◌^◌, List, length, map, All, Vec}

-- the lists in vectors
abbrev pub lists_of : {A : Type 0} → List (Vec ℕ A) → List (List ℕ)
lists_of rows = map (λ v. v.items) rows

-- there are fewer than 2 ^ 31 rows, and each has fewer numbers
pub record AreShort (rows : List (List ℕ)) : Type 0 where
  pub count : length rows < 2 ^ 31
  pub each : All (λ row. length row < 2 ^ 31) rows

-- each variable has a value, and no weight is 0
pub record AreWeights (rows : List (List ℕ)) : Type 0 where
  pub short : AreShort rows
  pub some : All (λ row. 0 < length row) rows
  pub positive : All (λ row. All (λ weight. 0 < weight) row) rows
