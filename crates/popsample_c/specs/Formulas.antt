-- Calls for assignments of the formula in an array of literals.
use Rattle.std.specs.Prelude.{◌≡◌, ◌⊎◌, ℕ, zero, suc, ◌+◌, ◌*◌, ◌/◌, ◌<◌, ◌≤◌, ◌^◌, ℤ, List, length, Option, None, Some}
use Rattle.dimacs_read.specs.Cnf.{Cnf}
use Rattle.dimacs_read.specs.Literals.{cnf_in}
use Rattle.dimacs_read.specs.declared.literals.LiteralFault.TheVariants.{TooManyVariables, TooManyLiterals, NoLiteral, Unended, EmptyClause, OutOfMemory as LiteralMemory}
use Rattle.array_calls.specs.declared.formula_refusal.FormulaRefusal.{FormulaRefusal}
use Rattle.array_calls.specs.declared.formula_refusal.FormulaRefusal.TheVariants.{NoFormula, Clash, OutOfMemory}
use Rattle.array_calls.specs.Assignments.{LeavesAssignments, LeavesRounded, RefusesExtremal, RefusesLiterals}
use Rattle.array_calls.specs.Trees.{FitFrom, FitsWanted, WantsStops}
use Rattle.array_calls.specs.Values.{ValueArrays}
use Rattle.popsample_c.specs.Calls.{IsDrawn}

-- the arrays have so many rows of a number for each of n variables
pub record FitVariableRows (n count : ℕ) (values useds : List ℕ) : Type 0 where
  pub values_fit : length values ≡ count * n
  pub useds_fit : FitsWanted n count useds

-- the call is one for assignments, by popping (0) or by rounds (1), whose arrays have rows for so many samples
pub record IsAssignCall (n by_rounds : ℕ) (key : List ℕ) (height first : ℕ) (from : List ℕ) (budget : ℕ)
    (values useds counts : List ℕ) : Type 0 where
  pub way : by_rounds < 2
  pub drawn : IsDrawn key height first (length counts / 2)
  pub rows : FitVariableRows n (length counts / 2) values useds
  pub from_fits : FitFrom n height from
  pub stops : WantsStops budget n (length counts / 2) useds

-- the status, the kind and the place of each refusal; two clauses that clash make one place
abbrev pub formula_told_as : FormulaRefusal → ℕ × ℕ × ℕ
formula_told_as (NoFormula TooManyVariables) = (4, 11, 0)
formula_told_as (NoFormula TooManyLiterals) = (4, 12, 0)
formula_told_as (NoFormula (NoLiteral place)) = (3, 13, place)
formula_told_as (NoFormula Unended) = (3, 14, 0)
formula_told_as (NoFormula (EmptyClause number)) = (6, 15, number)
formula_told_as (NoFormula LiteralMemory) = (9, 0, 0)
formula_told_as (Clash number other) = (5, 16, number * 2 ^ 32 + other)
formula_told_as OutOfMemory = (9, 0, 0)

-- what such a call leaves that stopped at a row, or at none
abbrev pub LeavesBy : ℕ → List ℕ → ℕ → Cnf → ℕ → List ℕ → ℕ → ℕ → ValueArrays → ValueArrays → Option ℕ → Type 0
LeavesBy zero key height f first from budget count old new stopped =
    LeavesAssignments key height f first from budget count old new stopped
LeavesBy (suc more) key height f first from budget count old new stopped =
    LeavesRounded key height f first from budget count old new stopped

-- why it has no samples: by rounds clauses may clash
abbrev pub RefusesBy : ℕ → ℕ → List ℤ → FormulaRefusal → Type 0
RefusesBy zero n literals refusal = RefusesExtremal n literals refusal
RefusesBy (suc more) n literals refusal = RefusesLiterals n literals refusal

-- each row of the arrays is at its end
abbrev pub EndAssignments : ℕ → List ℤ → ℕ → List ℕ → ℕ → ℕ → List ℕ → ℕ → ℕ → ValueArrays → ValueArrays → Type 0
EndAssignments n literals by_rounds key height first from budget count old new =
    LeavesBy by_rounds key height (cnf_in n literals) first from budget count old new None

-- the call stopped at this row
abbrev pub StopAssignments : ℕ → List ℤ → ℕ → List ℕ → ℕ → ℕ → List ℕ → ℕ → ℕ → ValueArrays → ValueArrays → ℕ → Type 0
StopAssignments n literals by_rounds key height first from budget count old new row =
    LeavesBy by_rounds key height (cnf_in n literals) first from budget count old new (Some row)

-- the literals have a refusal that is told so
pub record AreUnassigned (n : ℕ) (literals : List ℤ) (by_rounds status kind place : ℕ) : Type 0 where
  pub refusal : FormulaRefusal
  pub refused : RefusesBy by_rounds n literals refusal
  pub told : formula_told_as refusal ≡ (status, kind, place)

-- the statuses of such a call
abbrev pub IsFormulaStatus : ℕ → Type 0
IsFormulaStatus status = (status ≤ 6) ⊎ ((status ≡ 9) ⊎ (status ≡ 10))
