-- Commands for which every order of pops gives the same answer to an input.
use Rattle.std.specs.Prelude.{ℕ, List, Ok, ⊤}
use Rattle.pop_model.specs.Popping.{Cube}
use Rattle.pop_model.specs.Families.Family.{Listed}
use Rattle.pop_model.specs.Extremal.{IsExtremal}
use Rattle.dimacs_read.specs.Cnf.{Cnf}
use Rattle.dimacs_read.specs.CnfText.{AnswersCnf}
use Rattle.dimacs_read.specs.Falsifying.{AreEventsOf}
use Rattle.pop_words.specs.declared.command.Command.{Command}
use Rattle.pop_words.specs.declared.command.Command.TheVariants.{Resample, Resume}
use Rattle.run_cert.specs.Certificates.{Certificate, IsCertOf}

-- a formula's events are extremal
abbrev pub HasExtremalEvents : Cnf → Type 0
HasExtremalEvents f = (events : List (ℕ × Cube)) → AreEventsOf f.clauses events
    → IsExtremal (Listed events)

-- All orders of a command's pops lead to one end. For `resample` the formula's events must be
-- extremal. Other commands have extremal events or return an error.
abbrev pub HasOneEnd : Command → List ℕ → Type 0
HasOneEnd Resample text = (f : Cnf) → AnswersCnf text (Ok f) → HasExtremalEvents f
HasOneEnd command text = ⊤

-- the same for a run that is resumed: all orders of the pops of the certificate's command lead to
-- one end
abbrev pub LeadsToOneEnd : Command → List ℕ → Type 0
LeadsToOneEnd Resume text = (cert : Certificate) → IsCertOf text cert
    → HasOneEnd cert.head.command cert.input
LeadsToOneEnd command text = HasOneEnd command text
