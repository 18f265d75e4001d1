-- The outcome of an input that is checked.
use Rattle.std.specs.Prelude.{◌≡◌, ℕ, List, length, Ok}
use Rattle.pop_model.specs.Popping.{Cube}
use Rattle.pop_model.specs.Families.Family.{Listed}
use Rattle.pop_model.specs.Extremal.{IsExtremal}
use Rattle.dimacs_read.specs.Cnf.{Cnf}
use Rattle.dimacs_read.specs.CnfText.{AnswersCnf}
use Rattle.dimacs_read.specs.Falsifying.{AreEventsOf}
use Rattle.job_subjects.specs.Refused.{IsClashing, RefusesCnf}
use Rattle.told_runs.specs.Outcomes.{Outcome}
use Rattle.told_runs.specs.Outcomes.Outcome.{Refused, Extremal}

-- the formula's events are extremal, and there are this many
pub record IsExtremalCnf (f : Cnf) (count : ℕ) : Type 0 where
  pub events : List (ℕ × Cube)
  pub of_formula : AreEventsOf f.clauses events
  pub extremal : IsExtremal (Listed events)
  pub size : count ≡ length events

-- the outcome of the formula: two of its events clash, or none do
abbrev pub ComesOfFormula : Cnf → Outcome → Type 0
ComesOfFormula f (Refused refusal) = IsClashing f refusal
ComesOfFormula f (Extremal count) = IsExtremalCnf f count
ComesOfFormula f o = ⊥

-- the input denotes a formula with extremal events, and there are this many
pub record IsExtremalText (text : List ℕ) (count : ℕ) : Type 0 where
  pub formula : Cnf
  pub spelled : AnswersCnf text (Ok formula)
  pub verdict : IsExtremalCnf formula count

-- the outcome of the input: it is rejected, by its grammar or a clash, or this is the verdict
abbrev pub ComesOfChecking : List ℕ → Outcome → Type 0
ComesOfChecking text (Refused refusal) = RefusesCnf IsClashing text refusal
ComesOfChecking text (Extremal count) = IsExtremalText text count
ComesOfChecking text o = ⊥
