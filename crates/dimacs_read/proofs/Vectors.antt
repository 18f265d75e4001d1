-- Texts worked by hand, so that a slip in a definition does not check.
use Rattle.std.proofs.Common.{◌≡◌, ℕ, List, [], ◌∷◌, ◌++◌, codes, refl, Some, None, pos, negsuc, flat_map, arith}
use Rattle.pop_model.specs.Text.{line}
use Rattle.pop_edge.specs.declared.refusal.ReadRefusal.TheVariants.{Malformed, Count, Limit}
use Rattle.dimacs_read.specs.declared.token.Token.TheVariants.{Literal, End}
use Rattle.dimacs_read.specs.Cnf.{first_empty}
use Rattle.dimacs_read.specs.Falsifying.{falsifier}
use Rattle.dimacs_read.specs.Tokens.{token_of}
use Rattle.dimacs_read.specs.CnfText.{HasNoBadLine, cnf_of, cnf_refusal}

-- a number of ten digits may begin with zeros
numbers_have_leading_zeros : token_of (codes "-0000000012") ≡ Some (Literal (negsuc 11))
numbers_have_leading_zeros = refl

-- a number has at most ten digits
eleven_digits : token_of (codes "00000000012") ≡ None
eleven_digits = refl

-- an end has no sign
minus_zero : token_of (codes "-0") ≡ None
minus_zero = refl

-- a text by its lines
abbrev text : List (List ℕ) → List ℕ
text ls = flat_map line ls

-- an empty clause is in the grammar
second_clause_empty : cnf_refusal (text (codes "p cnf 1 2" ∷ codes "1 0" ∷ codes "0" ∷ [])) ≡ None
second_clause_empty = refl

-- the clauses of this text
its_clauses : cnf_of (text (codes "p cnf 1 2" ∷ codes "1 0" ∷ codes "0" ∷ []))
    ≡ record { variables = 1; clauses = (pos 1 ∷ []) ∷ [] ∷ [] }
its_clauses = refl

-- two clauses where one is declared
too_many_clauses : cnf_refusal (text (codes "p cnf 1 1" ∷ codes "1 0" ∷ codes "1 0" ∷ [])) ≡ Some (Count 1 2)
too_many_clauses = refl

-- a text with a comment in a clause, whose last clause ends with `%`
by_hand : List ℕ
by_hand = text (codes "c by hand" ∷ codes "p cnf 3 2" ∷ codes "1 -2" ∷ codes "c in the middle" ∷ codes "0"
    ∷ codes "2 3" ∷ codes "%" ∷ codes "0" ∷ [])

-- a comment may stand within a clause
comment_in_a_clause : cnf_refusal by_hand ≡ None
unfolding by_hand
comment_in_a_clause = refl

-- `%` ends the last clause, and the 0 behind it makes none
closed_by_percent : cnf_of by_hand
    ≡ record { variables = 3; clauses = (pos 1 ∷ negsuc 1 ∷ []) ∷ (pos 2 ∷ pos 3 ∷ []) ∷ [] }
unfolding by_hand
closed_by_percent = refl

-- a text that begins with a clause has no header
no_header : cnf_refusal (text (codes "1 0" ∷ [])) ≡ Some (Malformed 1 1)
no_header = refl

-- nor has a text without lines
no_lines : cnf_refusal [] ≡ Some (Malformed 1 1)
no_lines = refl

-- where only comments stand, the header is missed behind the last line
only_comments : cnf_refusal (text (codes "c" ∷ [] ∷ [])) ≡ Some (Malformed 3 1)
only_comments = refl

-- a literal of a variable that isn't declared
above_the_variables : cnf_refusal (text (codes "p cnf 1 1" ∷ codes "2 0" ∷ [])) ≡ Some (Malformed 2 3)
above_the_variables = refl

-- one variable more than may be declared
too_many_variables : cnf_refusal (text (codes "p cnf 4194305 0" ∷ [])) ≡ Some (Limit 2 1)
too_many_variables = refl

-- a header with a word too many is refused for that, though it declares too many variables
too_many_words : cnf_refusal (text (codes "p cnf 4194305 0 7" ∷ [])) ≡ Some (Malformed 1 4)
too_many_words = refl

-- one clause more than may be declared
too_many_declared : cnf_refusal (text (codes "p cnf 1 4194305" ∷ [])) ≡ Some (Limit 3 1)
too_many_declared = refl

-- the first bad word counts, and a bad word before a wrong count of clauses
first_in_the_order : cnf_refusal (text (codes "p cnf 2 9" ∷ codes "1 0" ∷ codes "1 x 3 0" ∷ codes "y" ∷ []))
    ≡ Some (Malformed 3 2)
first_in_the_order = refl

-- the last line needs no line end, and the last clause no 0
last_line_without_end : cnf_of (codes "p cnf 2 1" ++ 10 ∷ codes "1 -2")
    ≡ record { variables = 2; clauses = (pos 1 ∷ negsuc 1 ∷ []) ∷ [] }
last_line_without_end = refl

-- what stands behind `%` isn't judged
after_percent : cnf_refusal (text (codes "p cnf 1 1" ∷ codes "1" ∷ codes " %" ∷ codes "x" ∷ [])) ≡ None
after_percent = refl

-- a second header is a bad word among the clauses
second_header : cnf_refusal (text (codes "p cnf 1 1" ∷ codes "p cnf 1 1" ∷ [])) ≡ Some (Malformed 2 2)
second_header = refl

-- `%` before the header is a bad header
percent_first : cnf_refusal (text (codes "%" ∷ codes "p cnf 1 1" ∷ [])) ≡ Some (Malformed 1 1)
percent_first = refl

-- the second clause is the first empty one: clauses count from 0
first_clause_without_literals : first_empty (cnf_of (text (codes "p cnf 1 2" ∷ codes "1 0" ∷ codes "0" ∷ []))) ≡ Some 1
first_clause_without_literals = refl

-- zeros alone are the end of a clause
an_end : token_of (codes "000") ≡ Some End
an_end = refl

-- a variable's number is at most 2 ^ 31 - 1
greatest_literal : token_of (codes "-2147483647") ≡ Some (Literal (negsuc 2147483646))
greatest_literal = refl

-- 2 ^ 31 is no variable's number
past_the_literals : token_of (codes "2147483648") ≡ None
past_the_literals = refl

-- the codes of a header come before its limits, and code 1 first
header_of_five_words : cnf_refusal (text (codes "p cnf 1 1 1" ∷ [])) ≡ Some (Malformed 1 4)
header_of_five_words = refl

-- a header without its number of clauses
header_of_three_words : cnf_refusal (text (codes "p cnf 1" ∷ [])) ≡ Some (Malformed 1 1)
header_of_three_words = refl

-- a header of another format
other_format : cnf_refusal (text (codes "p edge 1 1" ∷ [])) ≡ Some (Malformed 1 1)
other_format = refl

-- a header may stand behind comments and empty lines, and a comment may begin behind blanks
header_behind_comments : cnf_refusal (text (codes "c x" ∷ [] ∷ codes "  col" ∷ codes " p  cnf 1 1" ∷ codes "1" ∷ []))
    ≡ None
header_behind_comments = refl

-- one clause may stand in many lines, and many in one
clauses_over_lines : cnf_of (text (codes "p cnf 2 2" ∷ codes "1" ∷ codes "2 0 -1 0" ∷ [])) ≡ record {
  variables = 2;
  clauses = (pos 1 ∷ pos 2 ∷ []) ∷ (negsuc 0 ∷ []) ∷ [];
}
clauses_over_lines = refl

-- literals before `%` are a last clause, and the bytes behind it say nothing
too_few_clauses : cnf_refusal (text (codes "p cnf 1 2" ∷ codes "1" ∷ codes "%" ∷ codes "1 0" ∷ [])) ≡ Some (Count 2 1)
too_few_clauses = refl

-- `%` within a line is a word
percent_in_a_line : cnf_refusal (text (codes "p cnf 1 1" ∷ codes "1 % 0" ∷ [])) ≡ Some (Malformed 2 2)
percent_in_a_line = refl

-- a bad word in a line without its end isn't refused yet
a_line_that_goes_on : HasNoBadLine (codes "p cnf 1 1" ++ 10 ∷ codes "x")
a_line_that_goes_on = record { short = omega arith; clean = refl }

-- a literal without a sign is false where its variable is 0
false_at_0 : falsifier (pos 3) ≡ (2, 0)
false_at_0 = refl

-- a literal with a sign is false where its variable is 1
false_at_1 : falsifier (negsuc 2) ≡ (2, 1)
false_at_1 = refl
