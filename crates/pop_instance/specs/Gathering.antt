-- Rows of events, with only the first of equal cubes.
use Rattle.std.specs.Prelude.{◌↔◌, ℕ, ◌<◌, List, map, Contains}
use Rattle.std.specs.List.Sorted.{IsStrictlyIncreasing}
use Rattle.pop_model.specs.Popping.{Cube}

-- Rows have rising numbers. Those are kept for which no row with a lower number has the same cube.
pub record KeepsFirst (rows kept : List (ℕ × Cube)) : Type 0 where
  pub rising : IsStrictlyIncreasing (map (λ r. r.0) kept)
  pub exact : (n : ℕ) (e : Cube)
      → Contains kept (n, e) ↔ (Contains rows (n, e) × ((m : ℕ) → m < n → Contains rows (m, e) → ⊥))
