-- The relation between the grammar and the errors.
use Rattle.std.specs.Prelude.{◌≡◌, ◌↔◌, ℕ, List, None}
use Rattle.dimacs_read.specs.Cnf.{Cnf}
use Rattle.dimacs_read.specs.CnfText.{cnf_refusal, cnf_of}
use Rattle.dimacs_read.specs.Grammar.{IsCnfText}

-- an input is that of a formula exactly if it has no error, and the formula is the one that it
-- denotes
abbrev pub AcceptsExactly : Type 0
AcceptsExactly =
    (text : List ℕ) (f : Cnf)
    → IsCnfText text f ↔ ((cnf_refusal text ≡ None) × (f ≡ cnf_of text))

-- an input denotes at most one formula
abbrev pub HasOneFormula : Type 0
HasOneFormula = (text : List ℕ) (f g : Cnf) → IsCnfText text f → IsCnfText text g → f ≡ g
