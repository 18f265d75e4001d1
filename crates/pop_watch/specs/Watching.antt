-- The states of watchers: how a record changes them, and their reports.
use Rattle.std.specs.Prelude.{ℕ, zero, suc, ◌+◌, ◌-◌, ◌^◌, ◌==◌, not, if◌then◌else◌, List, [], ◌∷◌, ◌++◌, length, drop, slice_index, map, fold, count_by, min, max, decimal, codes}
use Rattle.std.specs.List.{enumerate_from, range_with_len}
use Rattle.std.specs.Int.{leading_zeros, w32}
use Rattle.pop_model.specs.Text.{line, spaced}
use Rattle.pop_model.specs.Popping.{Cube, names}
use Rattle.pop_model.specs.Logs.{LogRecord}

-- a sum, capped at 2^64 - 1
abbrev pub plus : ℕ → ℕ → ℕ
plus n m = min (n + m) (2 ^ 64 - 1)

-- the number of records, of entries in them, and of entries in the longest; a state of another
-- length is unchanged
abbrev pub totals_step : List ℕ → LogRecord → List ℕ
totals_step (a ∷ b ∷ c ∷ []) r =
    plus a 1 ∷ plus b (length r.entries) ∷ max c (length r.entries) ∷ []
totals_step s r = s

-- the number of binary digits of a number of 32 bits; 0 has none
abbrev pub binary_digits : ℕ → ℕ
binary_digits k = 32 - leading_zeros w32 k

-- at each place the number of entries with this number of binary digits; a state of another length
-- is unchanged
abbrev pub heights_step : List ℕ → LogRecord → List ℕ
heights_step s r =
    if length s == 33
    then map (λ p. plus p.1 (count_by (λ k. binary_digits k == p.0) r.entries)) (enumerate_from 0 s)
    else s

-- one more than the largest number at the places of these variables; a missing place counts as 0
abbrev pub layer_at : List ℕ → Cube → ℕ
layer_at s e = plus (fold (λ n p. max n (slice_index s (p.0 + 1))) 0 e) 1

-- the number of places after each of these variables has one
abbrev pub places_with : List ℕ → Cube → ℕ
places_with s e = fold (λ n p. max n (p.0 + 2)) (length s) e

-- The number at a place after a record of this layer: at place 0 the largest layer, and at the
-- place of a variable of the record its layer.
abbrev pub layer_put : List ℕ → Cube → ℕ → ℕ → ℕ
layer_put s e y zero = max (slice_index s 0) y
layer_put s e y (suc v) = if names e v then y else slice_index s (suc v)

-- at place 0 the largest layer, and at place 1 + v the layer of the last record that named
-- variable v
abbrev pub layers_step : List ℕ → LogRecord → List ℕ
layers_step s r =
    map (layer_put s r.event.cube (layer_at s r.event.cube))
    (range_with_len 0 (places_with s r.event.cube))

-- kind 1 keeps totals, kind 2 heights, kind 3 layers; any other kind keeps its state
abbrev pub step : ℕ → List ℕ → LogRecord → List ℕ
step kind s r =
    if kind == 1 then totals_step s r
    else if kind == 2 then heights_step s r
    else if kind == 3 then layers_step s r else s

-- the state after the records of a log
abbrev pub told : ℕ → List ℕ → List LogRecord → List ℕ
told kind s log = fold (step kind) s log

-- a number before others that are kept; if none is kept, a 0 is not kept either
abbrev pub kept_before : ℕ → List ℕ → List ℕ
kept_before n [] = if n == 0 then [] else n ∷ []
kept_before n (m ∷ ms) = n ∷ m ∷ ms

-- the numbers up to the last one that is not 0
abbrev pub up_to_last : List ℕ → List ℕ
up_to_last [] = []
up_to_last (n ∷ ns) = kept_before n (up_to_last ns)

-- the line of totals
abbrev pub totals_text : List ℕ → List ℕ
totals_text (a ∷ b ∷ c ∷ []) = line (codes "report totals" ++ spaced (map decimal (a ∷ b ∷ c ∷ [])))
totals_text s = []

-- the line of heights
abbrev pub heights_text : List ℕ → List ℕ
heights_text s =
    if length s == 33
    then line (codes "report heights" ++ spaced (map decimal (up_to_last s)))
    else []

-- the number of places after the first with a number that is not 0
abbrev pub used_places : List ℕ → ℕ
used_places s = count_by (λ n. not (n == 0)) (drop 1 s)

-- the largest layer, and the number of variables that have one
abbrev pub layers_text : List ℕ → List ℕ
layers_text s =
    line (codes "report layers" ++ spaced (map decimal (slice_index s 0 ∷ used_places s ∷ [])))

-- the report on a state; it is empty for a kind without reports, and for kinds 1 and 2 if the
-- state has another length
abbrev pub report_text : ℕ → List ℕ → List ℕ
report_text kind s =
    if kind == 1 then totals_text s
    else if kind == 2 then heights_text s
    else if kind == 3 then layers_text s else []
