-- The tokens of a line, called words here.
use Rattle.std.specs.Prelude.{◌≡◌, ℕ, ◌<◌, Bool, false, ◌||◌, not, ◌==◌, List, [], ◌∷◌, length, map, filter, Option, None, Some}
use Rattle.std.specs.List.{slice_split, enumerate_from}
use denote.Ref.{Bor}

-- white space is space, tab and carriage return
abbrev pub is_blank : ℕ → Bool
is_blank b = (b == 32) || (b == 9) || (b == 13)

-- the tokens of a line: the longest runs of bytes that are not white space
abbrev pub words_of : List ℕ → List (List ℕ)
words_of line = filter (λ word. not (length word == 0)) (slice_split is_blank line)

-- the first byte of a line that is not white space is b, by the tokens of the line
abbrev pub begins_with : ℕ → List (List ℕ) → Bool
begins_with b [] = false
begins_with b ([] ∷ words) = false
begins_with b ((x ∷ xs) ∷ words) = x == b

-- the lines by their tokens, each under its number, from 1
abbrev pub numbered_words : List (List ℕ) → List (ℕ × List (List ℕ))
numbered_words lines = map (λ line. (line.0, words_of line.1)) (enumerate_from 1 lines)

-- the first token of a line was taken off, and the bytes after it are left
abbrev pub CutsWord : List ℕ → Option (Bor (List ℕ) × Bor (List ℕ)) → Type 0
CutsWord line None = words_of line ≡ []
CutsWord line (Some (word, rest)) =
    (words_of line ≡ word.now ∷ words_of rest.now) × (0 < length word.now)
    × (length rest.now < length line)
