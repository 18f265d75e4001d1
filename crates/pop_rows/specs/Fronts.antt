-- Rows that are prefixes of one list.
use Rattle.std.specs.Prelude.{ℕ, ◌<◌, ◌≤◌, ◌^◌, List, length, map, take, All}

-- the prefixes with these lengths
abbrev pub fronts_of : List ℕ → List ℕ → List (List ℕ)
fronts_of lengths list = map (λ n. take n list) lengths

-- no prefix is longer than the list, and the number of prefixes fits 32 bits
pub record AreFronts (lengths list : List ℕ) : Type 0 where
  pub few : length lengths < 2 ^ 32
  pub within : All (λ n. n ≤ length list) lengths
