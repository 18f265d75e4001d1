-- The meaning of the tokens after a header.
use Rattle.std.specs.Prelude.{ℕ, ◌-◌, ◌^◌, pos, negsuc, Bool, true, false, ◌&&◌, ◌==◌, nat_lt, if◌then◌else◌, List, [], ◌∷◌, Option, None, Some, option_and_then}
use Rattle.pop_edge.specs.Numbers.{number_of}
use Rattle.dimacs_read.specs.declared.token.Token.{Token}
use Rattle.dimacs_read.specs.declared.token.Token.TheVariants.{Literal, End}

-- a number without sign: 0 ends a clause
abbrev pub plain : ℕ → Option Token
plain n =
    if n == 0 then Some End else if nat_lt n (2 ^ 31) then Some (Literal (pos n)) else None

-- a number after a sign
abbrev pub negated : ℕ → Option Token
negated n = if nat_lt 0 n && nat_lt n (2 ^ 31) then Some (Literal (negsuc (n - 1))) else None

-- what a token denotes, if it is valid; 45 is `-`
abbrev pub token_of : List ℕ → Option Token
token_of [] = None
token_of (b ∷ bs) =
    if b == 45 then option_and_then negated (number_of bs)
    else option_and_then plain (number_of (b ∷ bs))

-- the token is a literal
abbrev pub is_literal : Option Token → Bool
is_literal (Some (Literal l)) = true
is_literal _ = false

-- the token is the end of a clause
abbrev pub is_clause_end : Option Token → Bool
is_clause_end (Some End) = true
is_clause_end _ = false
