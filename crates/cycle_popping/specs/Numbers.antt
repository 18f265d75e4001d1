-- The heads of a tree's slots as numbers: a variable is its own number, and the root has the count
-- of variables.
use Rattle.std.specs.Prelude.{ℕ, ◌-◌, List, map}
use Rattle.std.specs.Option.{unwrap_or}
use Rattle.pop_model.specs.Names.{vertex_of}
use Rattle.graph_read.specs.Graphs.{GraphOf, edge_at}
use Rattle.graph_read.specs.Incidence.{edges_at, other_end}
use Rattle.cycle_popping.specs.Trees.{variable_of}

-- the number of a vertex: its variable, or the count of variables for the root
abbrev pub number_of : GraphOf → ℕ → ℕ → ℕ
number_of g root w = unwrap_or (variable_of root w) (g.vertices - 1)

-- the numbers of the other ends of these edges at a vertex
abbrev pub numbers_along : GraphOf → ℕ → ℕ → List ℕ → List ℕ
numbers_along g root w edges = map (λ i. number_of g root (other_end (edge_at g i) w)) edges

-- the numbers of the heads of a variable's slots
abbrev pub numbers_at : GraphOf → ℕ → ℕ → List ℕ
numbers_at g root v =
    numbers_along g root (vertex_of root v) (edges_at g (vertex_of root v))
