-- In a grid a path joins each vertex to the first. The path goes right along the first row to the column of the
-- vertex, and then down that column. Each step of it is an edge of the grid, as the edges of a row are there for each
-- of its vertices, and the rows for each row. That each vertex has a row and a column is division with remainder.
use Rattle.std.proofs.Common.{◌≡◌, inl, inr, ℕ, ◌+◌, ◌-◌, ◌*◌, ◌/◌, ◌%◌, ◌<◌, ◌≤◌, suc, zero, Bool, true, nat_eq, nat_lt, cond, List, [], flat_map, arith, refl, sym, ap, subst}
use Rattle.std.specs.List.{range_with_len}
use Rattle.std.specs.Prelude.{Contains}
use Rattle.std.proofs.lemmas.Bool.{cases_eq, eq-eqb, lt-ltb, or_left}
use Rattle.std.proofs.lemmas.List.Elements.{Contains-append_left, Contains-append_right}
use Rattle.std.proofs.lemmas.Nat.{div-add-mod', div_below, mod_below}
use Rattle.graph_read.specs.declared.edge.Edge.{Edge}
use Rattle.graph_read.specs.Graphs.{GraphOf}
use Rattle.graph_read.specs.Grids.{IsPlace, edge_where, edges_from, grid_of, grid_vertex, row_edges}
use Rattle.graph_read.specs.Laws.{GridConnected}
use Rattle.graph_read.specs.Paths.{IsJoined}
use Rattle.graph_read.proofs.JoinedPaths.{joined_more}

-- the edge of weight 1 from a vertex to another
abbrev step : ℕ → ℕ → Edge
step u v = record { u = u; v = v; weight = 1 }

-- what comes of one of the numbers in a range comes of the range
in_range : {X : Type 0} (f : ℕ → List X) (x : X) (k a n : ℕ) → a ≤ k → k < a + n → Contains (f k) x
    → Contains (flat_map f (range_with_len a n)) x
in_range f x k a zero low high has = absurd (omega arith)
in_range f x k a (suc n) low high has =
    elim (cases_eq a k) [
      | inl is ↦
          Contains-append_left (f a) (flat_map f (range_with_len (a + 1) n)) x
          (subst (λ m. Contains (f m) x) (sym is) has)
      | inr apart ↦
          Contains-append_right (f a) (flat_map f (range_with_len (a + 1) n)) x
          (in_range f x k (a + 1) n (omega arith) (omega arith) has)
    ]

-- an edge from a vertex of the grid is an edge of the grid
in_grid : (side r c : ℕ) (e : Edge) → IsPlace side r c → Contains (edges_from side r c) e
    → Contains (grid_of side).edges e
in_grid side r c e place has =
    in_range (row_edges side) e r 1 side place.row (omega arith)
    (in_range (edges_from side r) e c 1 side place.column (omega arith) has)

-- an edge that is there stands in its list
there : (b : Bool) (u v : ℕ) → b ≡ true → Contains (edge_where b u v) (step u v)
there b u v is =
    subst (λ t. Contains (edge_where t u v) (step u v)) (sym is)
    (zero, omega arith, refl)

-- the edge from a vertex to its right neighbour is an edge of the grid
right_edge : (side r c : ℕ) → IsPlace side r c → c < side
    → Contains (grid_of side).edges (step (grid_vertex side r c) (grid_vertex side r (c + 1)))
right_edge side r c place less =
    let u = grid_vertex side r c in
    let right = grid_vertex side r (c + 1) in
    in_grid side r c (step u right) place
    (Contains-append_left (edge_where (nat_lt c side) u right)
    (edge_where (nat_lt r side) u (grid_vertex side (r + 1) c)) (step u right)
    (there (nat_lt c side) u right (lt-ltb c side less)))

-- the edge from a vertex to the one below is an edge of the grid
edge_below : (side r c : ℕ) → IsPlace side r c → r < side
    → Contains (grid_of side).edges (step (grid_vertex side r c) (grid_vertex side (r + 1) c))
edge_below side r c place less =
    let u = grid_vertex side r c in
    let below = grid_vertex side (r + 1) c in
    in_grid side r c (step u below) place
    (Contains-append_right (edge_where (nat_lt c side) u (grid_vertex side r (c + 1)))
    (edge_where (nat_lt r side) u below) (step u below)
    (there (nat_lt r side) u below (lt-ltb r side less)))

-- what a vertex is joined to goes on from the first end of an edge to the other
joined_on : (g : GraphOf) (a u v : ℕ) → IsJoined g a u → Contains g.edges (step u v) → IsJoined g a v
joined_on g a u v j has =
    let same = eq-eqb u u refl in
    subst (IsJoined g a) (ap (λ b. cond b v u) same)
    (joined_more g a u (step u v) j has (or_left (nat_eq u u) (nat_eq v u) same))

-- the vertices of the first row are joined to the first; columns count from 0 here
row_joined : (side k : ℕ) → k < side → IsJoined (grid_of side) 1 (grid_vertex side 1 (k + 1))
row_joined side zero less = ([], omega arith)
row_joined side (suc k) less =
    let place : IsPlace side 1 (k + 1) =
    record { row = omega arith; row_in = omega arith; column = omega arith; column_in = omega arith } in
    let next : k + 1 + 1 ≡ suc k + 1 = omega arith in
    subst (λ c. IsJoined (grid_of side) 1 (grid_vertex side 1 c)) next
    (joined_on (grid_of side) 1 (grid_vertex side 1 (k + 1)) (grid_vertex side 1 (k + 1 + 1))
    (row_joined side k (omega arith)) (right_edge side 1 (k + 1) place (omega arith)))

-- the vertices of a column are joined to the first where its top is; rows count from 0 here
column_joined : (side c k : ℕ) → 1 ≤ c → c ≤ side → k < side → IsJoined (grid_of side) 1 (grid_vertex side 1 c)
    → IsJoined (grid_of side) 1 (grid_vertex side (k + 1) c)
column_joined side c zero some few less top = top
column_joined side c (suc k) some few less top =
    let place : IsPlace side (k + 1) c =
    record { row = omega arith; row_in = omega arith; column = some; column_in = few } in
    let next : k + 1 + 1 ≡ suc k + 1 = omega arith in
    subst (λ r. IsJoined (grid_of side) 1 (grid_vertex side r c)) next
    (joined_on (grid_of side) 1 (grid_vertex side (k + 1) c) (grid_vertex side (k + 1 + 1) c)
    (column_joined side c k some few (omega arith) top) (edge_below side (k + 1) c place (omega arith)))

-- the vertex in the row and column that division with remainder gives, both counted from 0
pub vertex_at : (side w : ℕ) → 1 ≤ w → grid_vertex side ((w - 1) / side + 1) ((w - 1) % side + 1) ≡ w
vertex_at side w first =
    let row : (w - 1) / side + 1 - 1 ≡ (w - 1) / side = omega arith in
    omega (arith, ap (λ r. r * side) row, div-add-mod' (w - 1) side)

-- in a grid each vertex is joined to the first
pub grid_connected : GridConnected
grid_connected side is w vertex =
    let above : w - 1 < side * side = let first = vertex.first in let last = vertex.last in omega arith in
    let column = mod_below (w - 1) side is.some in
    subst (IsJoined (grid_of side) 1) (vertex_at side w vertex.first)
    (column_joined side ((w - 1) % side + 1) ((w - 1) / side) (omega arith) (omega arith)
    (div_below (w - 1) side side is.some above) (row_joined side ((w - 1) % side) column))
