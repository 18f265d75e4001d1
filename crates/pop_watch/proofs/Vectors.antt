-- Reports and states, worked by hand, so that a slip in a definition doesn't check.
use Rattle.std.proofs.Common.{◌≡◌, ℕ, List, [], ◌∷◌, refl, codes, replicate}
use Rattle.std.specs.Fmt.{digits}
use lib.Count.{count_leading_zeros}
use Rattle.pop_model.specs.Text.{line}
use Rattle.pop_model.specs.Logs.{LogRecord}
use Rattle.pop_watch.specs.Watching.{told, report_text, binary_digits}

-- a pop that used these entries
abbrev pop_of : List ℕ → LogRecord
pop_of entries = record { event = record { unit = 0; cube = (0, 0) ∷ [] }; entries = entries }

-- 0 has no digit
no_digit : binary_digits 0 ≡ 0
unfolding count_leading_zeros
no_digit = refl

-- 1 has one digit
one_digit : binary_digits 1 ≡ 1
unfolding count_leading_zeros
one_digit = refl

-- the greatest number of 32 bits has 32 digits
all_digits : binary_digits 4294967295 ≡ 32
unfolding count_leading_zeros
all_digits = refl

-- two pops of one variable
totals_of_two : report_text 1 (told 1 (0 ∷ 0 ∷ 0 ∷ []) (pop_of (0 ∷ []) ∷ pop_of (1 ∷ []) ∷ []))
    ≡ line (codes "report totals 2 2 1")
unfolding digits
totals_of_two = refl

-- two pops used an entry of no digit, and one of one digit
heights_of_two : report_text 2 (told 2 (replicate 33 0) (pop_of (0 ∷ []) ∷ pop_of (1 ∷ []) ∷ []))
    ≡ line (codes "report heights 1 1")
unfolding digits count_leading_zeros
heights_of_two = refl

-- without pops no count is told
heights_of_none : report_text 2 (replicate 33 0) ≡ line (codes "report heights")
heights_of_none = refl

-- a state of another length is left, and has no report
another_length : report_text 2 (told 2 (7 ∷ []) (pop_of (0 ∷ []) ∷ [])) ≡ []
another_length = refl

-- a kind that has no step leaves its state, and has no report
another_kind : told 7 (7 ∷ []) (pop_of (0 ∷ []) ∷ []) ≡ 7 ∷ []
another_kind = refl

-- a state of such a kind has no report
no_report : report_text 7 (7 ∷ []) ≡ []
no_report = refl

-- a sum of 64 bits that is full stays
a_full_sum : told 1 (18446744073709551615 ∷ 1 ∷ 5 ∷ []) (pop_of (0 ∷ 3 ∷ []) ∷ [])
    ≡ 18446744073709551615 ∷ 3 ∷ 5 ∷ []
a_full_sum = refl

-- a pop of one variable
abbrev pop_at : ℕ → LogRecord
pop_at v = record { event = record { unit = v; cube = (v, 0) ∷ [] }; entries = 0 ∷ [] }

-- two pops of variable 0, between which variable 1 is popped
layers_of_three : told 3 (0 ∷ []) (pop_at 0 ∷ pop_at 1 ∷ pop_at 0 ∷ []) ≡ 2 ∷ 2 ∷ 1 ∷ []
layers_of_three = refl

-- the greatest layer, and two variables
report_of_three : report_text 3 (2 ∷ 2 ∷ 1 ∷ []) ≡ line (codes "report layers 2 2")
unfolding digits
report_of_three = refl

-- the empty state has no layer
report_of_empty : report_text 3 [] ≡ line (codes "report layers 0 0")
unfolding digits
report_of_empty = refl
