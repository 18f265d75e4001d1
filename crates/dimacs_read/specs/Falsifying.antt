-- The events of a formula: each occurs exactly if its clause is false (Moser and Tardos 2010).
use Rattle.std.specs.Prelude.{◌≡◌, ℕ, suc, ◌-◌, ◌<◌, ◌↔◌, ℤ, pos, negsuc, List, map, slice_get, Option, None, Some, Contains}
use Rattle.std.specs.List.Sorted.{IsStrictlyIncreasing}
use Rattle.pop_model.specs.Popping.{Cube, IsCube}

-- the variable, from 0, and the value for which the literal is false: 0 is false, and 1 is true
abbrev pub falsifier : ℤ → ℕ × ℕ
falsifier (pos n) = (n - 1, 0)
falsifier (negsuc n) = (n, 1)

-- the cube has each variable of the clause with the value that falsifies its literal
pub record Falsifies (clause : List ℤ) (e : Cube) : Type 0 where
  pub cube : IsCube e
  pub same : (p : ℕ × ℕ) → Contains e p ↔ Contains (map falsifier clause) p

-- clause n, from 1, has this cube
abbrev pub HasCube : List (List ℤ) → ℕ → Cube → Type 0
HasCube clauses n e =
    (k : ℕ) × (clause : List ℤ) × (n ≡ suc k) × (slice_get clauses k ≡ Some clause)
    × Falsifies clause e

-- each cube of a clause, once, with the number of the first clause that has it, by rising number
pub record AreEventsOf (clauses : List (List ℤ)) (rows : List (ℕ × Cube)) : Type 0 where
  pub rising : IsStrictlyIncreasing (map (λ r. r.0) rows)
  pub exact : (n : ℕ) (e : Cube)
      → Contains rows (n, e)
      ↔ (HasCube clauses n e × ((m : ℕ) → m < n → HasCube clauses m e → ⊥))

-- the cube of a clause, or None if it has a variable and its negation
abbrev pub IsCubeOf : List ℤ → Option Cube → Type 0
IsCubeOf clause None = (e : Cube) → Falsifies clause e → ⊥
IsCubeOf clause (Some e) = Falsifies clause e
