-- The theorem about printed literals.
use Rattle.std.specs.Prelude.{◌≡◌, ℕ, ◌+◌, pos, negsuc}
use Rattle.std.specs.Fmt.{signed_decimal}
use Rattle.pop_print.specs.Output.{literal_of}

-- variable v, from 0, is printed as the literal that is true: its number, from 1, for the value 1,
-- and the negation for the value 0 (DIMACS CNF)
abbrev pub SignedLiterals : Type 0
SignedLiterals = (v : ℕ) → (literal_of v 1 ≡ signed_decimal (pos (v + 1)))
    × (literal_of v 0 ≡ signed_decimal (negsuc v))
