-- Assignments of a formula, in terms of the printed literals.
use Rattle.std.specs.Prelude.{◌≡◌, ◌⊎◌, ℕ, ◌+◌, ◌<◌, ℤ, List, ◌∷◌, ◌++◌, length, decimal, codes, Some, slice_get, All, Contains}
use Rattle.std.specs.Fmt.{signed_decimal}
use Rattle.pop_model.specs.Text.{line, spaced}
use Rattle.dimacs_read.specs.Cnf.{Cnf}

-- A literal of the clause is one of these tokens, in its printed form: the number of its variable,
-- from 1, with `-` before it if it is negated (DIMACS CNF).
pub record IsSatisfied (words : List (List ℕ)) (clause : List ℤ) : Type 0 where
  pub literal : ℤ
  pub in_clause : Contains clause literal
  pub printed : Contains words (signed_decimal literal)

-- there is a token for each of n variables: variable v + 1, or its negation
pub record AreLiteralsOf (n : ℕ) (words : List (List ℕ)) : Type 0 where
  pub count : length words ≡ n
  pub each : (v : ℕ) → v < n
      → (slice_get words v ≡ Some (decimal (v + 1)))
      ⊎ (slice_get words v ≡ Some (45 ∷ decimal (v + 1)))

-- The text begins with a sample of the formula: the tokens between `v` and `0` are a literal of
-- each variable, and each clause has a literal among them.
pub record ShowsAssignment (f : Cnf) (out : List ℕ) : Type 0 where
  pub words : List (List ℕ)
  pub rest : List ℕ
  pub out_is : out ≡ (line (codes "s SAMPLE") ++ line (codes "v" ++ spaced words ++ codes " 0"))
      ++ rest
  pub literals : AreLiteralsOf f.variables words
  pub satisfied : All (λ clause. IsSatisfied words clause) f.clauses
