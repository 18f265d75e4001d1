-- Values worked by hand, so that a slip in a definition does not check.
use Rattle.std.proofs.Common.{◌≡◌, [], ◌∷◌, ◌++◌, codes, refl, Some, None}
use Rattle.pop_edge.specs.Lines.{lines_of, ended_lines, judged_lines}
use Rattle.pop_edge.specs.Words.{words_of, numbered_words}
use Rattle.pop_edge.specs.Numbers.{number_of}

-- between two line ends stands an empty line
lines : lines_of (codes "ab" ++ 10 ∷ 10 ∷ codes "c") ≡ codes "ab" ∷ [] ∷ codes "c" ∷ []
lines = refl

-- the last line, which has no end, isn't among the ended ones
lines_with_their_end : ended_lines (codes "ab" ++ 10 ∷ 10 ∷ codes "c") ≡ codes "ab" ∷ [] ∷ []
lines_with_their_end = refl

-- behind the last line end no line stands
an_end_makes_no_line : lines_of (codes "ab" ++ 10 ∷ []) ≡ codes "ab" ∷ []
an_end_makes_no_line = refl

-- no bytes have no line
no_text_has_no_line : lines_of [] ≡ []
no_text_has_no_line = refl

-- of a short text the last line is judged too, though it has no end
all_lines_of_a_short_text_are_judged : judged_lines (codes "ab" ++ 10 ∷ codes "c") ≡ codes "ab" ∷ codes "c" ∷ []
all_lines_of_a_short_text_are_judged = refl

-- a tab, spaces and a carriage return part words
words : words_of (9 ∷ codes " 1  -2" ++ 13 ∷ []) ≡ codes "1" ∷ codes "-2" ∷ []
words = refl

-- vertical tab, form feed and NUL are bytes of words
no_blanks : words_of (11 ∷ 32 ∷ 12 ∷ 0 ∷ []) ≡ (11 ∷ []) ∷ (12 ∷ 0 ∷ []) ∷ []
no_blanks = refl

-- lines count from 1, and one without words counts too
numbers_of_lines : numbered_words (codes "a b" ∷ [] ∷ []) ≡ (1, codes "a" ∷ codes "b" ∷ []) ∷ (2, []) ∷ []
numbers_of_lines = refl

-- a number of ten digits may begin with zeros
leading_zeros : number_of (codes "0000000012") ≡ Some 12
leading_zeros = refl

-- a number has at most ten digits
eleven_digits : number_of (codes "00000000012") ≡ None
eleven_digits = refl

-- a number is at most 2 ^ 32 - 1
greatest_number : number_of (codes "4294967295") ≡ Some 4294967295
greatest_number = refl

-- 2 ^ 32 is no number
past_the_greatest : number_of (codes "4294967296") ≡ None
past_the_greatest = refl

-- a number has a digit
no_digits : number_of [] ≡ None
no_digits = refl

-- a number has no sign
a_sign_is_no_digit : number_of (codes "+1") ≡ None
a_sign_is_no_digit = refl
