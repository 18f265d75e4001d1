-- Assignments of the formula in an array of literals.
use Rattle.std.specs.Prelude.{◌≡◌, ◌⊎◌, ℕ, ℤ, List, Option}
use Rattle.pop_model.specs.Popping.{Cube}
use Rattle.pop_model.specs.Extremal.{IsExtremal}
use Rattle.pop_model.specs.Instances.{Instance}
use Rattle.pop_model.specs.Places.{IsLeastPair}
use Rattle.dimacs_read.specs.declared.literals.LiteralFault.{LiteralFault}
use Rattle.dimacs_read.specs.declared.literals.LiteralFault.TheVariants.{OutOfMemory as LiteralMemory}
use Rattle.dimacs_read.specs.Cnf.{Cnf}
use Rattle.dimacs_read.specs.Falsifying.{AreEventsOf}
use Rattle.dimacs_read.specs.Literals.{AreClauses, IsLiteralFault, cnf_in}
use Rattle.extremal_check.specs.Clashes.{AreClashing}
use Rattle.array_calls.specs.declared.formula_refusal.FormulaRefusal.{FormulaRefusal}
use Rattle.array_calls.specs.declared.formula_refusal.FormulaRefusal.TheVariants.{NoFormula, Clash, OutOfMemory}
use Rattle.array_calls.specs.Rounded.{LeavesRounds}
use Rattle.array_calls.specs.Values.{LeavesValues, ValueArrays, pairs_under}

-- the events of a formula, under a key and a height
pub record AreEventsUnder (key : List ℕ) (height : ℕ) (f : Cnf) (i : Instance) : Type 0 where
  pub events : List (ℕ × Cube)
  pub of_formula : AreEventsOf f.clauses events
  pub is : i ≡ pairs_under key height f.variables events

-- what a call for satisfying assignments by popping leaves, if it stopped at a row, or at none
pub record LeavesAssignments (key : List ℕ) (height : ℕ) (f : Cnf) (first : ℕ) (from : List ℕ) (budget count : ℕ)
    (old new : ValueArrays) (stopped : Option ℕ) : Type 0 where
  pub instance : Instance
  pub events : AreEventsUnder key height f instance
  pub extremal : IsExtremal instance.family
  pub rows : LeavesValues instance f.variables first from budget count old new stopped

-- what a call by rounds leaves that stopped at a row, or at none
pub record LeavesRounded (key : List ℕ) (height : ℕ) (f : Cnf) (first : ℕ) (from : List ℕ) (budget count : ℕ)
    (old new : ValueArrays) (stopped : Option ℕ) : Type 0 where
  pub instance : Instance
  pub events : AreEventsUnder key height f instance
  pub rows : LeavesRounds instance f.variables first from budget count old new stopped

-- a fault of literals as an error
abbrev pub unformed : LiteralFault → FormulaRefusal
unformed LiteralMemory = OutOfMemory
unformed fault = NoFormula fault

-- memory ran out, or the error is one of these
abbrev pub IsFormulaRefusal : (FormulaRefusal → Type 0) → FormulaRefusal → Type 0
IsFormulaRefusal Refuses refusal = (refusal ≡ OutOfMemory) ⊎ Refuses refusal

-- literals that are no formula
abbrev pub RefusesLiterals : ℕ → List ℤ → FormulaRefusal → Type 0
RefusesLiterals n literals refusal =
    (fault : LiteralFault) × IsLiteralFault n literals fault × (refusal ≡ unformed fault)

-- these are the numbers of the lowest pair of events that clash
pub record HasClashOf (events : List (ℕ × Cube)) (refusal : FormulaRefusal) : Type 0 where
  pub number : ℕ
  pub other : ℕ
  pub least : IsLeastPair (AreClashing events) number other
  pub is : refusal ≡ Clash number other

-- two events of the formula clash
pub record HasClash (f : Cnf) (refusal : FormulaRefusal) : Type 0 where
  pub events : List (ℕ × Cube)
  pub of_formula : AreEventsOf f.clauses events
  pub clash : HasClashOf events refusal

-- the error of literals if samples by popping are asked for: by their form, or else by clauses
-- that clash
abbrev pub RefusesExtremal : ℕ → List ℤ → FormulaRefusal → Type 0
RefusesExtremal n literals refusal =
    RefusesLiterals n literals refusal ⊎ (AreClauses n literals × HasClash (cnf_in n literals) refusal)
