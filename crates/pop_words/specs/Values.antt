-- How the value of an option is read from an argument.
use Rattle.std.specs.Prelude.{ℕ, ◌^◌, Bool, true, false, not, ◌&&◌, ◌==◌, nat_le, if◌then◌else◌, List, [], ◌∷◌, length, sum_by, Option, None, Some, option_map, option_and_then, codes}
use Rattle.std.specs.List.{find, list_all, list_any, slice_split}
use Rattle.std.specs.Str.{bytes_eq}
use Rattle.std.specs.Result.{result_ok}
use Rattle.hex.specs.Hex.{decode_sized}
use Rattle.pop_edge.specs.Numbers.{number_of}
use Rattle.pop_words.specs.declared.board_kind.BoardKind.{BoardKind}
use Rattle.pop_words.specs.declared.board_kind.BoardKind.TheVariants.{Lock, Words}
use Rattle.pop_words.specs.declared.reports.Reports.{Reports}

-- a value before the values that are read after it
abbrev pub cons_some : {Y : Type 0} → Option Y → Option (List Y) → Option (List Y)
cons_some None ys = None
cons_some (Some y) None = None
cons_some (Some y) (Some ys) = Some (y ∷ ys)

-- the values of all parts, if each of them can be read
abbrev pub all_some : {X Y : Type 0} → (X → Option Y) → List X → Option (List Y)
all_some f [] = Some []
all_some f (x ∷ xs) = cons_some (f x) (all_some f xs)

-- the value that was read, if it passes a test
abbrev pub only_if : {X : Type 0} → (X → Bool) → Option X → Option X
only_if test read = option_and_then (λ x. if test x then Some x else None) read

-- a number from low to high
abbrev pub number_between : ℕ → ℕ → List ℕ → Option ℕ
number_between low high word = only_if (λ n. nat_le low n && nat_le n high) (number_of word)

-- the 32 bytes of 64 hexadecimal digits, of both cases; the first two digits are byte 0
abbrev pub key_in : List ℕ → Option (List ℕ)
key_in word = result_ok (decode_sized word 32)

-- the value with this name, from a list of names and values
abbrev pub named_in : {X : Type 0} → List (List ℕ × X) → List ℕ → Option X
named_in names word = option_map (λ p. p.1) (find (λ p. bytes_eq word p.0) names)

-- the board with this name
abbrev pub board_in : List ℕ → Option BoardKind
board_in word = named_in ((codes "lock", Lock) ∷ (codes "words", Words) ∷ []) word

-- whether something is on: `on` or `off`
abbrev pub switch_in : List ℕ → Option Bool
switch_in word = named_in ((codes "on", true) ∷ (codes "off", false) ∷ []) word

-- the parts of an argument between its commas
abbrev pub comma_parts : List ℕ → List (List ℕ)
comma_parts word = slice_split (λ b. b == 44) word

-- the parts of an argument between its semicolons
abbrev pub semicolon_parts : List ℕ → List (List ℕ)
semicolon_parts word = slice_split (λ b. b == 59) word

-- a row is empty, or numbers joined by `,`
abbrev pub row_in : List ℕ → Option (List ℕ)
row_in [] = Some []
row_in (b ∷ bs) = all_some number_of (comma_parts (b ∷ bs))

-- a row has at most this many numbers
abbrev pub fits_in : ℕ → List ℕ → Bool
fits_in room row = nat_le (length row) room

-- at most 2 ^ 22 rows, with at most 2 ^ 20 numbers in all rows together
abbrev pub are_within : List (List ℕ) → Bool
are_within rows = nat_le (length rows) (2 ^ 22) && nat_le (sum_by length rows) (2 ^ 20)

-- an empty argument has no row; in every other argument rows are joined by `;`
abbrev pub rows_in : List ℕ → Option (List (List ℕ))
rows_in [] = Some []
rows_in (b ∷ bs) = only_if are_within (all_some row_in (semicolon_parts (b ∷ bs)))

-- exactly two numbers
abbrev pub pair_of : List ℕ → Option (ℕ × ℕ)
pair_of (a ∷ b ∷ []) = Some (a, b)
pair_of numbers = None

-- two numbers joined by `,`
abbrev pub pair_in : List ℕ → Option (ℕ × ℕ)
pair_in word = option_and_then pair_of (row_in word)

-- no report
abbrev pub no_reports : Reports
no_reports = record { totals = false; heights = false; layers = false }

-- the name of the report of the totals
abbrev pub totals_name : List ℕ
totals_name = codes "totals"

-- the name of the report of the heights
abbrev pub heights_name : List ℕ
heights_name = codes "heights"

-- the name of the report of the layers
abbrev pub layers_name : List ℕ
layers_name = codes "layers"

-- a part is the name of a report
abbrev pub is_report : List ℕ → Bool
is_report part = list_any (bytes_eq part) (totals_name ∷ heights_name ∷ layers_name ∷ [])

-- no part occurs twice
abbrev pub are_different : List (List ℕ) → Bool
are_different [] = true
are_different (part ∷ parts) = not (list_any (bytes_eq part) parts) && are_different parts

-- the parts are names of reports, each at most once
abbrev pub are_reports : List (List ℕ) → Bool
are_reports parts = list_all is_report parts && are_different parts

-- the reports with names among the parts
abbrev pub reports_among : List (List ℕ) → Reports
reports_among parts =
    record {
      totals = list_any (bytes_eq totals_name) parts;
      heights = list_any (bytes_eq heights_name) parts;
      layers = list_any (bytes_eq layers_name) parts;
    }

-- names of reports joined by `,`, each at most once
abbrev pub reports_in : List ℕ → Option Reports
reports_in word =
    if are_reports (comma_parts word) then Some (reports_among (comma_parts word)) else None
