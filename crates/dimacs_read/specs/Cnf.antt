-- Formulas in conjunctive normal form.
use Rattle.std.specs.Prelude.{ℕ, ◌+◌, ◌<◌, ◌≤◌, ℤ, nat_abs, List, [], ◌∷◌, Option, None, Some, All}

-- clauses are lists of literals in the order of the input: v for the variable v, from 1, and -v
-- for its negation (DIMACS CNF)
pub record Cnf : Type 0 where
  pub variables : ℕ
  pub clauses : List (List ℤ)

-- the literal is one of n variables, from 1, or its negation
pub record IsLiteral (n : ℕ) (l : ℤ) : Type 0 where
  pub some : 0 < nat_abs l
  pub below : nat_abs l ≤ n

-- the clauses are of literals of n variables
abbrev pub AreLiterals : ℕ → List (List ℤ) → Type 0
AreLiterals n clauses = All (λ clause. All (IsLiteral n) clause) clauses

-- the first clause without literals, if the first of all clauses has the number n
abbrev pub empty_in : ℕ → List (List ℤ) → Option ℕ
empty_in n [] = None
empty_in n ([] ∷ clauses) = Some n
empty_in n ((l ∷ ls) ∷ clauses) = empty_in (n + 1) clauses

-- the first clause without literals, from 0
abbrev pub first_empty : Cnf → Option ℕ
first_empty f = empty_in 0 f.clauses
