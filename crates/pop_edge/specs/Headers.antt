-- The header line of an input (the problem line of the DIMACS formats).
use Rattle.std.specs.Prelude.{◌≡◌, ℕ, ◌+◌, if◌then◌else◌, List, ◌∷◌, length, Option, None, Some, option_map, option_and_then, bytes_eq, codes}
use denote.Ref.{Bor}
use Rattle.pop_edge.specs.Words.{words_of}
use Rattle.pop_edge.specs.Numbers.{number_of}

-- the kind of an input and two numbers, if a line begins with the tokens `p`, the kind and these
-- numbers
abbrev pub header_of : List (List ℕ) → Option (List ℕ × ℕ × ℕ)
header_of (p ∷ kind ∷ n ∷ m ∷ words) =
    if bytes_eq p (codes "p")
    then option_and_then (λ a. option_map (λ b. (kind, a, b)) (number_of m)) (number_of n)
    else None
header_of _ = None

-- the four tokens of a header were taken off, and the bytes after them are left
abbrev pub CutsHeader : List ℕ → Option (Bor (List ℕ) × ℕ × ℕ × Bor (List ℕ)) → Type 0
CutsHeader line None = header_of (words_of line) ≡ None
CutsHeader line (Some (kind, n, m, rest)) =
    (header_of (words_of line) ≡ Some (kind.now, n, m))
    × (length (words_of line) ≡ 4 + length (words_of rest.now))
