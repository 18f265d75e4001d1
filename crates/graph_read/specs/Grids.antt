-- Grids: each vertex is joined to the next in its row and to the next in its column.
use Rattle.std.specs.Prelude.{◌≡◌, ℕ, ◌+◌, ◌-◌, ◌*◌, ◌≤◌, Bool, nat_lt, if◌then◌else◌, List, [], ◌∷◌, ◌++◌, flat_map}
use Rattle.std.specs.List.{range_with_len}
use Rattle.graph_read.specs.declared.edge.Edge.{Edge}
use Rattle.graph_read.specs.Graphs.{GraphOf}

-- the vertex in row r and column c of a grid with this many columns; rows and columns count from 1
abbrev pub grid_vertex : ℕ → ℕ → ℕ → ℕ
grid_vertex side r c = (r - 1) * side + c

-- an edge of weight 1, if it exists
abbrev pub edge_where : Bool → ℕ → ℕ → List Edge
edge_where there u v = if there then record { u = u; v = v; weight = 1 } ∷ [] else []

-- the edges from a vertex to its right neighbour and to the one below, if they exist
abbrev pub edges_from : ℕ → ℕ → ℕ → List Edge
edges_from side r c =
    edge_where (nat_lt c side) (grid_vertex side r c) (grid_vertex side r (c + 1))
    ++ edge_where (nat_lt r side) (grid_vertex side r c) (grid_vertex side (r + 1) c)

-- the edges from the vertices of a row
abbrev pub row_edges : ℕ → ℕ → List Edge
row_edges side r = flat_map (edges_from side r) (range_with_len 1 side)

-- the grid with this many rows and columns, with its edges in the order of their first vertices
-- (this project's choice)
abbrev pub grid_of : ℕ → GraphOf
grid_of side =
    record {
      vertices = side * side;
      edges = flat_map (row_edges side) (range_with_len 1 side);
    }

-- a vertex, if it exists
abbrev pub vertex_where : Bool → ℕ → List ℕ
vertex_where there v = if there then v ∷ [] else []

-- the vertices above, to the left, to the right and below that exist
abbrev pub grid_neighbours : ℕ → ℕ → ℕ → List ℕ
grid_neighbours side r c =
    vertex_where (nat_lt 1 r) (grid_vertex side (r - 1) c)
    ++ vertex_where (nat_lt 1 c) (grid_vertex side r (c - 1))
    ++ vertex_where (nat_lt c side) (grid_vertex side r (c + 1))
    ++ vertex_where (nat_lt r side) (grid_vertex side (r + 1) c)

-- the number of rows and columns is within its limits
pub record IsSide (side : ℕ) : Type 0 where
  pub some : 1 ≤ side
  pub few : side ≤ 2048

-- a place of the grid
pub record IsPlace (side r c : ℕ) : Type 0 where
  pub row : 1 ≤ r
  pub row_in : r ≤ side
  pub column : 1 ≤ c
  pub column_in : c ≤ side

-- these edges are added to the graph
abbrev pub AddsEdges : GraphOf → GraphOf → List Edge → Type 0
AddsEdges old new edges = new ≡ record old { edges = old.edges ++ edges }
