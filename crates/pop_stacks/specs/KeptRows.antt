-- Rows, by how they are stored.
use Rattle.std.specs.Prelude.{ℕ, List}
use Rattle.pop_stacks.specs.Rows.{lists_of}
use Rattle.pop_stacks.specs.declared.rows.KeptRows.{KeptRows}
use Rattle.pop_stacks.specs.declared.rows.KeptRows.TheVariants.{Nested, Flat, Front}

-- the rows: each in an array of its own, all in one, or prefixes of one list
abbrev pub rows_of : KeptRows → List (List ℕ)
rows_of (Nested rows) = lists_of rows.items
rows_of (Flat rows) = rows
rows_of (Front rows) = rows
