-- Rows that lie end to end in one list.
use Rattle.std.specs.Prelude.{◌≡◌, ℕ, ◌+◌, ◌-◌, ◌<◌, ◌≤◌, ◌^◌, List, length, map, slice_index, slice_range}
use Rattle.std.specs.List.{range_with_len}

-- row v goes from its start up to the next
abbrev pub row_between : List ℕ → List ℕ → ℕ → List ℕ
row_between starts items v = slice_range items (slice_index starts v) (slice_index starts (v + 1))

-- the rows; the last start is the end of the last row
abbrev pub rows_between : List ℕ → List ℕ → List (List ℕ)
rows_between starts items = map (row_between starts items) (range_with_len 0 (length starts - 1))

-- Starts rise up to the end of the list, and there is one more than there are rows. Numbers of
-- rows and places fit 32 bits.
pub record AreEndToEnd (starts items : List ℕ) : Type 0 where
  pub some : 0 < length starts
  pub few : length starts ≤ 2 ^ 32
  pub short : length items < 2 ^ 32
  pub rising : (v : ℕ) → v + 1 < length starts
      → slice_index starts v ≤ slice_index starts (v + 1)
  pub last : slice_index starts (length starts - 1) ≡ length items
