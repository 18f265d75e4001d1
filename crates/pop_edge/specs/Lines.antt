-- The lines of an input, and which of them are checked.
use Rattle.std.specs.Prelude.{ℕ, ◌^◌, Bool, ◌==◌, nat_lt, if◌then◌else◌, List, [], ◌∷◌, length, take, count_by}
use Rattle.std.specs.List.{onto_first}

-- the byte that ends a line
abbrev pub is_end : ℕ → Bool
is_end b = b == 10

-- the lines of an input, without their line ends; bytes after the last line end are a last line
abbrev pub lines_of : List ℕ → List (List ℕ)
lines_of [] = []
lines_of (b ∷ bs) = if is_end b then [] ∷ lines_of bs else onto_first b (lines_of bs)

-- the lines that have a line end: as many as there are line ends
abbrev pub ended_lines : List ℕ → List (List ℕ)
ended_lines text = take (count_by is_end text) (lines_of text)

-- the largest number of bytes of an input (this project's choice)
abbrev pub text_limit : ℕ
text_limit = 2 ^ 28

-- the lines that are checked: all, or in a longer input those before the line of the first byte
-- past the limit
abbrev pub judged_lines : List ℕ → List (List ℕ)
judged_lines text =
    if nat_lt text_limit (length text) then ended_lines (take text_limit text) else lines_of text
