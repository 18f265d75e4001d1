-- Heads, by how they are stored.
use Rattle.std.specs.Prelude.{ℕ, List, Option}
use Rattle.pop_instance.specs.Arrows.{heads_of, heads_of_numbers}
use Rattle.pop_instance.specs.declared.kept_heads.KeptHeads.{KeptHeads}
use Rattle.pop_instance.specs.declared.kept_heads.KeptHeads.TheVariants.{Nested, Flat, Shifted}

-- for each variable the heads of its slots; None is the root
abbrev pub heads_kept : KeptHeads → List (List (Option ℕ))
heads_kept (Nested rows) = heads_of rows.items
heads_kept (Flat rows) = heads_of_numbers rows
heads_kept (Shifted rows) = heads_of_numbers rows
