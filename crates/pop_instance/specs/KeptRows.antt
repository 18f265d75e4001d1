-- The places of all variables, by how they are stored.
use Rattle.std.specs.Prelude.{ℕ, List}
use Rattle.pop_instance.specs.declared.index.KeptRows.{KeptRows}
use Rattle.pop_instance.specs.declared.index.KeptRows.TheVariants.{Roomy, EndToEnd}

-- for each variable the places of the events that name it
abbrev pub rows_kept : KeptRows → List (List ℕ)
rows_kept (Roomy rows) = rows.rows
rows_kept (EndToEnd rows) = rows
