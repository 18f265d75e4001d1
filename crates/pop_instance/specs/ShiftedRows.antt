-- Rows of numbers that are patterns, each shifted by the number of its row.
use Rattle.std.specs.Prelude.{◌≡◌, ℕ, ◌+◌, ◌%◌, ◌<◌, ◌^◌, List, length, map, All}
use Rattle.std.specs.List.{enumerate_from}
use Rattle.pop_rows.specs.FlatRows.{row_at}

-- the numbers of a pattern with a number added to each, modulo 2 ^ 32
abbrev pub shifted : ℕ → List ℕ → List ℕ
shifted v pattern = map (λ x. (v + x) % 2 ^ 32) pattern

-- the rows: each is the pattern of its kind, shifted by its own number
abbrev pub shifted_rows : List ℕ → List (List ℕ) → List (List ℕ)
shifted_rows kinds patterns = map (λ p. shifted p.0 (row_at patterns p.1)) (enumerate_from 0 kinds)

-- each kind has a pattern, and the number of rows fits 32 bits
pub record AreKinds (kinds : List ℕ) (patterns : List (List ℕ)) : Type 0 where
  pub few : length kinds < 2 ^ 32
  pub known : All (λ kind. kind < length patterns) kinds

-- row v has the pattern of this kind
pub record IsKind (v : ℕ) (row : List ℕ) (patterns : List (List ℕ)) (kind : ℕ) : Type 0 where
  pub known : kind < length patterns
  pub is : shifted v (row_at patterns kind) ≡ row

-- a row that has a pattern among the old ones also has it among the new ones
abbrev pub StaysIn : List (List ℕ) → List (List ℕ) → Type 0
StaysIn old new = (v : ℕ) (row : List ℕ) (kind : ℕ) → IsKind v row old kind → IsKind v row new kind
