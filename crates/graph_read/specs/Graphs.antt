-- Graphs with weighted edges; self-loops and parallel edges are allowed.
use Rattle.std.specs.Prelude.{ℕ, ◌^◌, ◌<◌, ◌≤◌, List, length, slice_index_or, All}
use Rattle.graph_read.specs.declared.edge.Edge.{Edge}

-- the number of vertices, which count from 1, and the edges, which count from 0
pub record GraphOf : Type 0 where
  pub vertices : ℕ
  pub edges : List Edge

-- edge i, from 0
abbrev pub edge_at : GraphOf → ℕ → Edge
edge_at g i = slice_index_or g.edges i (record { u = 0; v = 0; weight = 0 })

-- the number is that of one of n vertices
pub record IsVertex (n w : ℕ) : Type 0 where
  pub first : 1 ≤ w
  pub last : w ≤ n

-- the edge joins two of n vertices, and has a weight
pub record IsEdge (n : ℕ) (e : Edge) : Type 0 where
  pub from : IsVertex n e.u
  pub to : IsVertex n e.v
  pub some : 1 ≤ e.weight
  pub small : e.weight < 2 ^ 32

-- at most 2^22 vertices, and at most 2^23 edges, each of which joins two of the vertices
pub record IsGraph (g : GraphOf) : Type 0 where
  pub vertices_fit : g.vertices ≤ 2 ^ 22
  pub edges_fit : length g.edges ≤ 2 ^ 23
  pub edges_join : All (IsEdge g.vertices) g.edges
