-- Formulas in one array: the literals of each clause, and a 0 at its end (as in the DIMACS CNF format).
use Rattle.std.specs.Prelude.{◌≡◌, ◌⊎◌, ℕ, ◌+◌, ◌-◌, ◌<◌, ◌≤◌, ◌^◌, ◌==◌, if◌then◌else◌, ℤ, pos, nat_abs, Bool, List, length, map, count_by, slice_index_or, Option, Some, All, ⊤}
use Rattle.pop_model.specs.Places.{IsLeast}
use Rattle.dimacs_read.specs.declared.literals.LiteralFault.{LiteralFault}
use Rattle.dimacs_read.specs.declared.literals.LiteralFault.TheVariants.{TooManyVariables, TooManyLiterals, NoLiteral, Unended, EmptyClause, OutOfMemory}
use Rattle.dimacs_read.specs.declared.token.Token.{Token}
use Rattle.dimacs_read.specs.declared.token.Token.TheVariants.{Literal, End}
use Rattle.dimacs_read.specs.Cnf.{Cnf, first_empty}
use Rattle.dimacs_read.specs.CnfText.{clauses_of}

-- the number ends a clause
abbrev pub ends_clause : ℤ → Bool
ends_clause l = nat_abs l == 0

-- the token for a number of the array
abbrev pub token_at : ℤ → Option Token
token_at l = if ends_clause l then Some End else Some (Literal l)

-- the formula of n variables in an array
abbrev pub cnf_in : ℕ → List ℤ → Cnf
cnf_in n literals = record { variables = n; clauses = clauses_of (map token_at literals) }

-- the numbers of clauses and literals are within their limits
pub record HaveRoom (literals : List ℤ) : Type 0 where
  pub clauses_fit : count_by ends_clause literals ≤ 2 ^ 22
  pub literals_fit : length literals - count_by ends_clause literals ≤ 2 ^ 25

-- each number is 0, or a literal of one of n variables
abbrev pub AreOfVariables : ℕ → List ℤ → Type 0
AreOfVariables n literals = All (λ l. nat_abs l ≤ n) literals

-- the last number ends a clause, if there is a number
abbrev pub IsEnded : List ℤ → Type 0
IsEnded literals = (k : ℕ) → k + 1 ≡ length literals → nat_abs (slice_index_or literals k (pos 0)) ≡ 0

-- each number is valid, and the last one ends a clause
pub record AreClauses (n : ℕ) (literals : List ℤ) : Type 0 where
  pub variables_fit : n ≤ 2 ^ 22
  pub room : HaveRoom literals
  pub known : AreOfVariables n literals
  pub ended : IsEnded literals

-- why literals are no formula of n variables: the first fault in the order of `LiteralFault`, at
-- its lowest place
abbrev pub IsLiteralFault : ℕ → List ℤ → LiteralFault → Type 0
IsLiteralFault n literals TooManyVariables = 2 ^ 22 < n
IsLiteralFault n literals TooManyLiterals = (n ≤ 2 ^ 22) × (HaveRoom literals → ⊥)
IsLiteralFault n literals (NoLiteral place) =
    (n ≤ 2 ^ 22) × HaveRoom literals
    × IsLeast (λ k. (k < length literals) × (n < nat_abs (slice_index_or literals k (pos 0)))) place
IsLiteralFault n literals Unended =
    (n ≤ 2 ^ 22) × HaveRoom literals × AreOfVariables n literals × (IsEnded literals → ⊥)
IsLiteralFault n literals (EmptyClause number) =
    AreClauses n literals × ((k : ℕ) × (number ≡ k + 1) × (first_empty (cnf_in n literals) ≡ Some k))
IsLiteralFault n literals OutOfMemory = ⊤
