-- Worked values of options, so that a wrong reading of one doesn't check.
use Rattle.std.proofs.Common.{◌≡◌, true, false, [], ◌∷◌, ◌++◌, None, Some, refl, codes, replicate}
use Rattle.hex.proofs.OnLiterals.{hex_on_literals}
use Rattle.pop_words.specs.declared.board_kind.BoardKind.TheVariants.{Lock}
use Rattle.pop_words.specs.Values.{number_between, rows_in, key_in, board_in, switch_in, reports_in}

-- a height is at least 1, and may begin with zeros
least_height : number_between 1 2147483647 (codes "0000000001") ≡ Some 1
least_height = refl

-- 0 is no height
no_height : number_between 1 2147483647 (codes "0") ≡ None
no_height = refl

-- 2 ^ 31 is no height
past_the_greatest_height : number_between 1 2147483647 (codes "2147483648") ≡ None
past_the_greatest_height = refl

-- no bytes are an empty list of rows
no_row : rows_in [] ≡ Some []
no_row = refl

-- `;` parts rows, and `,` the numbers of a row
two_rows : rows_in (codes "0,01;2") ≡ Some ((0 ∷ 1 ∷ []) ∷ (2 ∷ []) ∷ [])
two_rows = refl

-- behind a `;` stands a row, which may be empty
an_empty_row_behind : rows_in (codes "0;") ≡ Some ((0 ∷ []) ∷ [] ∷ [])
an_empty_row_behind = refl

-- behind a `,` stands a number
an_empty_number : rows_in (codes "0,;1") ≡ None
an_empty_number = refl

-- the first two digits are byte 0, the high one first; both cases
bytes_of_a_key : key_in (codes "A1000000000000000000000000000000000000000000000000000000000000fF")
    ≡ Some (161 ∷ replicate 30 0 ++ 255 ∷ [])
unfolding hex_on_literals
bytes_of_a_key = refl

-- 63 digits are no key
a_digit_too_few : key_in (codes "000000000000000000000000000000000000000000000000000000000000000") ≡ None
unfolding hex_on_literals
a_digit_too_few = refl

-- a root is at least 1, and may begin with zeros
least_root : number_between 1 4294967295 (codes "0000000001") ≡ Some 1
least_root = refl

-- a root is at most 2 ^ 32 - 1
greatest_root : number_between 1 4294967295 (codes "4294967295") ≡ Some 4294967295
greatest_root = refl

-- 0 is no root
no_root : number_between 1 4294967295 (codes "00") ≡ None
no_root = refl

-- 2 ^ 32 is no root
past_the_greatest_root : number_between 1 4294967295 (codes "4294967296") ≡ None
past_the_greatest_root = refl

-- a grid may have 2048 rows
greatest_grid : number_between 1 2048 (codes "2048") ≡ Some 2048
greatest_grid = refl

-- it may have no more
past_the_greatest_grid : number_between 1 2048 (codes "2049") ≡ None
past_the_greatest_grid = refl

-- a board is named
board_of_a_lock : board_in (codes "lock") ≡ Some Lock
board_of_a_lock = refl

-- no board has another name
no_name_of_a_board : board_in (codes "word") ≡ None
no_name_of_a_board = refl

-- one report is asked for by its name
totals_alone : reports_in (codes "totals") ≡ Some (record { totals = true; heights = false; layers = false })
totals_alone = refl

-- reports may be named in any order
heights_in_front : reports_in (codes "heights,totals") ≡ Some (record { totals = true; heights = true; layers = false })
heights_in_front = refl

-- all three may be asked for
layers_in_front : reports_in (codes "layers,heights,totals") ≡
    Some (record { totals = true; heights = true; layers = true })
layers_in_front = refl

-- reports have one name at least
no_name_of_a_report : reports_in [] ≡ None
no_name_of_a_report = refl

-- behind a `,` stands a name
an_empty_name_behind : reports_in (codes "totals,") ≡ None
an_empty_name_behind = refl

-- no report is named twice
heights_twice : reports_in (codes "heights,totals,heights") ≡ None
heights_twice = refl

-- a log is on
log_on : switch_in (codes "on") ≡ Some true
log_on = refl

-- or off
log_off : switch_in (codes "off") ≡ Some false
log_off = refl
