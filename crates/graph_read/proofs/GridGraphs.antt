-- A grid is a graph, and each of its edges has weight 1. What holds of the edge from each vertex to its right and of the
-- one to the vertex below holds of all edges; the places at both their ends are in the grid.
use Rattle.std.proofs.Common.{◌≡◌, ℕ, ◌+◌, ◌-◌, ◌*◌, ◌^◌, ◌<◌, ◌≤◌, suc, zero, Bool, true, false, nat_lt, List, [], flat_map, arith, refl, ap}
use Rattle.std.specs.Prelude.{All}
use Rattle.std.specs.List.{range_with_len}
use Rattle.std.proofs.lemmas.Bool.{ltb-true}
use Rattle.std.proofs.lemmas.List.Elements.{All-append, All-cons, All-nil}
use Rattle.std.proofs.lemmas.Nat.{mul-le}
use Rattle.std.proofs.Math.Nat.{add-mul}
use Rattle.graph_read.specs.declared.edge.Edge.{Edge}
use Rattle.graph_read.specs.Graphs.{IsEdge, IsGraph, IsVertex}
use Rattle.graph_read.specs.Grids.{IsPlace, IsSide, edge_where, edges_from, grid_of, grid_vertex, row_edges}
use Rattle.graph_read.proofs.GridPlaces.{place_below, right_place, rows_few}

-- the edge of weight 1 from a vertex to another
abbrev step : ℕ → ℕ → Edge
step u v = record { u = u; v = v; weight = 1 }

-- what holds of all that comes of each number holds of all that comes of them
all_come : {X : Type 0} (P : X → Type 0) (f : ℕ → List X) (a n : ℕ)
    → ((j : ℕ) → a ≤ j → j < a + n → All P (f j)) → All P (flat_map f (range_with_len a n))
all_come P f a zero each = All-nil P
all_come P f a (suc n) each =
    All-append P (f a) (flat_map f (range_with_len (a + 1) n)) (each a (omega arith) (omega arith))
    (all_come P f (a + 1) n (λ j low high. each j (omega (arith, low)) (omega (arith, high))))

-- what holds of an edge where it is there
all_where : (P : Edge → Type 0) (there : Bool) (u v : ℕ) → (there ≡ true → P (step u v)) → All P (edge_where there u v)
all_where P true u v holds = All-cons P (step u v) [] (holds refl) (All-nil P)
all_where P false u v holds = All-nil P

-- what holds of the edges to the right and below holds of all edges of the grid
all_edges : (P : Edge → Type 0) (side : ℕ)
    → ((r c : ℕ) → IsPlace side r c → c < side → P (step (grid_vertex side r c) (grid_vertex side r (c + 1))))
    → ((r c : ℕ) → IsPlace side r c → r < side → P (step (grid_vertex side r c) (grid_vertex side (r + 1) c)))
    → All P (grid_of side).edges
all_edges P side right below =
    all_come P (row_edges side) 1 side
    (λ r first last. all_come P (edges_from side r) 1 side
    (λ c low high.
    let u = grid_vertex side r c in
    let at : IsPlace side r c =
    record { row = first; row_in = omega (arith, last); column = low; column_in = omega (arith, high) } in
    All-append P (edge_where (nat_lt c side) u (grid_vertex side r (c + 1)))
    (edge_where (nat_lt r side) u (grid_vertex side (r + 1) c))
    (all_where P (nat_lt c side) u (grid_vertex side r (c + 1)) (λ is. right r c at (ltb-true c side is)))
    (all_where P (nat_lt r side) u (grid_vertex side (r + 1) c) (λ is. below r c at (ltb-true r side is)))))

-- the vertex at a place
vertex_of_place : (side r c : ℕ) → IsPlace side r c → IsVertex (side * side) (grid_vertex side r c)
vertex_of_place side r c at =
    let row : side ≡ r - 1 + (1 + (side - r)) = omega (arith, at.row, at.row_in) in
    record {
      first = omega (arith, at.column);
      last = omega (
        arith,
        at.column_in,
        ap (λ x. x * side) row,
        add-mul (r - 1) (1 + (side - r)) side,
        add-mul 1 (side - r) side,
      );
    }

-- an edge from a place to another
edge_of_places : (side r c s d : ℕ) → IsPlace side r c → IsPlace side s d
    → IsEdge (side * side) (step (grid_vertex side r c) (grid_vertex side s d))
edge_of_places side r c s d at to =
    record {
      from = vertex_of_place side r c at;
      to = vertex_of_place side s d to;
      some = omega arith;
      small = omega arith;
    }

-- a grid is a graph
pub grid_is_graph : (side : ℕ) → IsSide side → IsGraph (grid_of side)
grid_is_graph side is =
    record {
      vertices_fit = omega (arith, mul-le side side (2 ^ 11) (2 ^ 11) is.few is.few);
      edges_fit = omega (
        arith,
        rows_few side side,
        mul-le side (side * 2) (2 ^ 11) (2 ^ 12) is.few (omega (arith, is.few)),
      );
      edges_join = all_edges (IsEdge (side * side)) side
          (λ r c at less. edge_of_places side r c r (c + 1) at (right_place side r c at less))
          (λ r c at less. edge_of_places side r c (r + 1) c at (place_below side r c at less));
    }

-- its first vertex is there
pub first_vertex : (side : ℕ) → IsSide side → IsVertex (grid_of side).vertices 1
first_vertex side is = record { first = omega arith; last = omega (arith, mul-le 1 1 side side is.some is.some) }

-- each edge of a grid has weight 1
pub grid_ones : (side : ℕ) → All (λ e. e.weight ≡ 1) (grid_of side).edges
grid_ones side = all_edges (λ e. e.weight ≡ 1) side (λ r c at less. refl) (λ r c at less. refl)
