-- Languages of lists, and the first place at which a list leaves one.
use Rattle.std.specs.Prelude.{◌≡◌, ℕ, suc, ◌≤◌, List, ◌++◌, length, take}

-- some member of the language begins with the list
abbrev pub Begins : {X : Type 0} → (List X → Type 0) → List X → Type 0
Begins {X} In xs = (rest : List X) × In (xs ++ rest)

-- The list is not a member, and p is the smallest number such that no member begins with its first
-- p items. If items are missing at the end, p is its length plus 1.
pub record IsFirstBad {X : Type 0} (In : List X → Type 0) (xs : List X) (p : ℕ) : Type 0 where
  pub outside : In xs → ⊥
  pub place : (k : ℕ) × (p ≡ suc k) × (k ≤ length xs) × Begins In (take k xs)
  pub bad : p ≤ length xs → Begins In (take p xs) → ⊥
