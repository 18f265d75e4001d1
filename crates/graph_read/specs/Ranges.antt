-- Rows that edges fill in ranges, one range after another.
use Rattle.std.specs.Prelude.{◌≡◌, ℕ, ◌+◌, ◌<◌, ◌≤◌, List, [], length}
use Rattle.pop_rows.specs.FlatRows.{row_at}
use Rattle.graph_read.specs.declared.row_range.RowRange.{RowRange}
use Rattle.graph_read.specs.Graphs.{GraphOf}
use Rattle.graph_read.specs.Incidence.{Putting, row_by}

-- the row is in the range
abbrev pub IsWithin : RowRange → ℕ → Type 0
IsWithin range row = (range.first ≤ row) × (row < range.end)

-- the rows of the range are empty
abbrev pub AreEmptyWithin : RowRange → List (List ℕ) → Type 0
AreEmptyWithin range rows = (k : ℕ) → IsWithin range k → row_at rows k ≡ []

-- The rows of the range have what the edges at their vertices put there, and the others stayed. Row k is that of
-- vertex k + 1.
pub record FillsRange (put : Putting) (g : GraphOf) (range : RowRange) (old new : List (List ℕ)) : Type 0 where
  pub size : length new ≡ length old
  pub within : (k : ℕ) → k < g.vertices → IsWithin range k → row_at new k ≡ row_by put g (k + 1)
  pub beyond : (k : ℕ) → (IsWithin range k → ⊥) → row_at new k ≡ row_at old k
