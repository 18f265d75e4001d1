-- The layout of rows in one list: each goes from its start up to its end, with room up to the next
-- start.
use Rattle.std.specs.Prelude.{◌≡◌, ℕ, ◌+◌, ◌-◌, ◌<◌, ◌≤◌, ◌^◌, List, length, map, take, sum, slice_index, slice_range}
use Rattle.std.specs.List.{range_with_len}
use Rattle.pop_rows.specs.FlatRows.{RoomyRows}

-- the numbers of row v
abbrev pub row_in : List ℕ → List ℕ → List ℕ → ℕ → List ℕ
row_in starts ends items v = slice_range items (slice_index starts v) (slice_index ends v)

-- the rows, one for each end
abbrev pub rows_in : List ℕ → List ℕ → List ℕ → List (List ℕ)
rows_in starts ends items = map (row_in starts ends items) (range_with_len 0 (length ends))

-- the room of row v
abbrev pub room_in : List ℕ → ℕ → ℕ
room_in starts v = slice_index starts (v + 1) - slice_index starts v

-- the rooms of this many rows
abbrev pub rooms_in : List ℕ → ℕ → List ℕ
rooms_in starts count = map (room_in starts) (range_with_len 0 count)

-- the rows with their rooms
abbrev pub roomy_rows : List ℕ → List ℕ → List ℕ → RoomyRows
roomy_rows starts ends items =
    record { rooms = rooms_in starts (length ends); rows = rows_in starts ends items }

-- Each row ends in its room, the last start ends the last room, and all rooms are in the list;
-- places in it fit 32 bits.
pub record AreLaidOut (starts ends items : List ℕ) : Type 0 where
  pub count : length starts ≡ length ends + 1
  pub few : length ends < 2 ^ 32
  pub short : length items < 2 ^ 32
  pub begun : (v : ℕ) → v < length ends → slice_index starts v ≤ slice_index ends v
  pub ended : (v : ℕ) → v < length ends → slice_index ends v ≤ slice_index starts (v + 1)
  pub within : (v : ℕ) → v < length starts → slice_index starts v ≤ length items

-- each start is the sum of the rooms before it, and the last one is the sum of all rooms
pub record AreStarts (rooms starts : List ℕ) : Type 0 where
  pub count : length starts ≡ length rooms + 1
  pub each : (v : ℕ) → v < length starts → slice_index starts v ≡ sum (take v rooms)
