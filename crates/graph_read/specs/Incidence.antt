-- The edges at a vertex.
use Rattle.std.specs.Prelude.{◌≡◌, ℕ, ◌+◌, ◌-◌, ◌*◌, ◌<◌, Bool, ◌&&◌, ◌||◌, not, ◌==◌, if◌then◌else◌, List, [], length, map, filter, slice_index, slice_index_or}
use Rattle.std.specs.List.{enumerate_from, range_with_len}
use Rattle.graph_read.specs.declared.edge.Edge.{Edge}
use Rattle.graph_read.specs.declared.put.Put.{Put}
use Rattle.graph_read.specs.declared.put.Put.TheVariants.{Dart, OtherEnd, Weight}
use Rattle.graph_read.specs.Graphs.{GraphOf, IsVertex, edge_at}

-- the edge is a self-loop
abbrev pub is_loop : Edge → Bool
is_loop e = e.u == e.v

-- the vertex is an end of the edge
abbrev pub touches : Edge → ℕ → Bool
touches e w = (e.u == w) || (e.v == w)

-- the end of an edge that is not this vertex; for a self-loop it is the vertex itself
abbrev pub other_end : Edge → ℕ → ℕ
other_end e w = if e.u == w then e.v else e.u

-- the edges at a vertex, without self-loops, in the order of the graph, each under its number,
-- from 0
abbrev pub listed_edges : GraphOf → ℕ → List (ℕ × Edge)
listed_edges g w = filter (λ p. touches p.1 w && not (is_loop p.1)) (enumerate_from 0 g.edges)

-- the numbers of the edges at a vertex
abbrev pub edges_at : GraphOf → ℕ → List ℕ
edges_at g w = map (λ p. p.0) (listed_edges g w)

-- the other ends of the edges at a vertex
abbrev pub neighbours_of : GraphOf → ℕ → List ℕ
neighbours_of g w = map (λ i. other_end (edge_at g i) w) (edges_at g w)

-- the dart (half-edge) of edge i at one of its ends: 2 i at its end v, and 2 i + 1 at its end u
abbrev pub dart_at : ℕ → Edge → ℕ → ℕ
dart_at i e w = 2 * i + (if e.v == w then 0 else 1)

-- what an edge adds to the row of one of its ends, by its number, itself and the vertex
abbrev pub Putting : Type 0
Putting = ℕ → Edge → ℕ → ℕ

abbrev pub put_of : Put → Putting
put_of Dart = dart_at
put_of OtherEnd = λ i e w. other_end e w
put_of Weight = λ i e w. e.weight

-- the number of the edge
abbrev pub put_number : Putting
put_number i e w = i

-- what the edges at a vertex add to its row
abbrev pub row_by : Putting → GraphOf → ℕ → List ℕ
row_by put g w = map (λ i. put i (edge_at g i) w) (edges_at g w)

-- the darts at a vertex, without self-loops, in the order of the graph
abbrev pub darts_at : GraphOf → ℕ → List ℕ
darts_at g = row_by dart_at g

-- what the edges at each vertex add to its row, from vertex 1 on
abbrev pub rows_by : Putting → GraphOf → List (List ℕ)
rows_by put g = map (row_by put g) (range_with_len 1 g.vertices)

-- the number of edges at each vertex, without self-loops
abbrev pub degrees_of : GraphOf → List ℕ
degrees_of g = map (λ w. length (edges_at g w)) (range_with_len 1 g.vertices)

-- For each vertex, from vertex 1 on, the edge at its place among those at it; places count from 1.
-- If there is no such place, any number is allowed.
pub record StandAtPlaces (g : GraphOf) (places edges : List ℕ) : Type 0 where
  pub count : length edges ≡ g.vertices
  pub each : (w x : ℕ) → IsVertex g.vertices w → slice_index places (w - 1) ≡ x + 1
      → x < length (edges_at g w) → slice_index edges (w - 1) ≡ slice_index (edges_at g w) x

-- the row of a vertex
abbrev pub at_vertex : List (List ℕ) → ℕ → List ℕ
at_vertex rows w = slice_index_or rows (w - 1) []
