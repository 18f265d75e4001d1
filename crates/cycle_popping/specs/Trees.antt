-- The arrows of rooted spanning trees (Propp and Wilson 1998). The variables are the vertices
-- without the root, rising. The slots of a variable are the edges at its vertex, without
-- self-loops, in the order of the graph. Vertices count from 1, and variables, slots and edges
-- from 0.
use Rattle.std.specs.Prelude.{ℕ, ◌-◌, ◌==◌, nat_lt, if◌then◌else◌, List, map, Option, None, Some}
use Rattle.std.specs.List.{range_with_len}
use Rattle.pop_model.specs.Names.{vertex_of}
use Rattle.graph_read.specs.Graphs.{GraphOf, edge_at}
use Rattle.graph_read.specs.Incidence.{edges_at, other_end}

-- the variable of a vertex; None is the root
abbrev pub variable_of : ℕ → ℕ → Option ℕ
variable_of root w = if w == root then None else Some (if nat_lt w root then w - 1 else w - 2)

-- the heads of these edges at a vertex
abbrev pub heads_along : GraphOf → ℕ → ℕ → List ℕ → List (Option ℕ)
heads_along g root w edges = map (λ i. variable_of root (other_end (edge_at g i) w)) edges

-- the weights of these edges
abbrev pub weights_along : GraphOf → List ℕ → List ℕ
weights_along g edges = map (λ i. (edge_at g i).weight) edges

-- the heads of a variable's slots: the other ends of the edges at its vertex
abbrev pub heads_at : GraphOf → ℕ → ℕ → List (Option ℕ)
heads_at g root v = heads_along g root (vertex_of root v) (edges_at g (vertex_of root v))

-- the weights of a variable's slots: those of the edges at its vertex
abbrev pub weights_at : GraphOf → ℕ → ℕ → List ℕ
weights_at g root v = weights_along g (edges_at g (vertex_of root v))

-- for each variable the heads of its slots
abbrev pub heads_of_tree : GraphOf → ℕ → List (List (Option ℕ))
heads_of_tree g root = map (heads_at g root) (range_with_len 0 (g.vertices - 1))

-- for each variable the weights of its slots
abbrev pub weights_of_tree : GraphOf → ℕ → List (List ℕ)
weights_of_tree g root = map (weights_at g root) (range_with_len 0 (g.vertices - 1))
