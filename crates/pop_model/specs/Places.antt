-- Lowest numbers and lowest pairs.
use Rattle.std.specs.Prelude.{◌≡◌, ◌⊎◌, ℕ, ◌<◌}

-- the lowest number with this property
pub record IsLeast (P : ℕ → Type 0) (n : ℕ) : Type 0 where
  pub holds : P n
  pub none_before : (m : ℕ) → m < n → P m → ⊥

-- the pair (w, j) comes before the pair (v, k): pairs are compared from left to right
abbrev pub StandsBefore : ℕ → ℕ → ℕ → ℕ → Type 0
StandsBefore w j v k = (w < v) ⊎ ((w ≡ v) × (j < k))

-- the first pair with this property
pub record IsLeastPair (P : ℕ → ℕ → Type 0) (v k : ℕ) : Type 0 where
  pub holds : P v k
  pub none_before : (w j : ℕ) → StandsBefore w j v k → P w j → ⊥
