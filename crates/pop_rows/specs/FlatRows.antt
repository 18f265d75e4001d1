-- Rows of numbers, each with room for a fixed number of them.
use Rattle.std.specs.Prelude.{◌≡◌, ℕ, ◌<◌, ◌≤◌, List, [], ◌∷◌, ◌++◌, length, slice_index, slice_index_or, slice_set}

-- rows, which count from 0, and the number of items that each has room for
pub record RoomyRows : Type 0 where
  pub rooms : List ℕ
  pub rows : List (List ℕ)

-- row v
abbrev pub row_at : List (List ℕ) → ℕ → List ℕ
row_at rows v = slice_index_or rows v []

-- the rows with another number at the end of row v
abbrev pub push_at : List (List ℕ) → ℕ → ℕ → List (List ℕ)
push_at rows v x = slice_set rows v (row_at rows v ++ x ∷ [])

-- row v exists, and is shorter than its room
abbrev pub HasRoom : RoomyRows → ℕ → Type 0
HasRoom f v = length (row_at f.rows v) < slice_index f.rooms v

-- each row has a room, and is not longer than it
pub record AreRoomy (f : RoomyRows) : Type 0 where
  pub count : length f.rooms ≡ length f.rows
  pub within : (v : ℕ) → v < length f.rows → length (row_at f.rows v) ≤ slice_index f.rooms v
