-- The theorem about the events of sinks.
use Rattle.std.specs.Prelude.{ℕ, List}
use Rattle.pop_model.specs.Popping.{Cube}
use Rattle.pop_model.specs.Families.Family.{Listed}
use Rattle.pop_model.specs.Extremal.{IsExtremal}
use Rattle.graph_read.specs.Graphs.{GraphOf}
use Rattle.sink_popping.specs.Sinks.{AreSinksOf}

-- the events of sinks are extremal: an edge doesn't point to both its ends
-- (Guo, Jerrum and Liu 2019)
abbrev pub SinksExtremal : Type 0
SinksExtremal = (g : GraphOf) (rows : List (ℕ × Cube)) → AreSinksOf g rows
    → IsExtremal (Listed rows)
