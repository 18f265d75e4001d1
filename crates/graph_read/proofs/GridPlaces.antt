-- The edges of a grid, as they come vertex by vertex and row by row. From each vertex at most two come, so the edges so
-- far are at most twice the vertices so far.
use Rattle.std.proofs.Common.{◌≡◌, ℕ, ◌+◌, ◌*◌, ◌<◌, ◌≤◌, suc, zero, Bool, true, false, nat_lt, List, [], ◌∷◌, ◌++◌, length, flat_map, refl, sym, ap, ◌∙◌, arith, append_assoc, append-nil, length-append}
use Rattle.std.specs.List.{range_with_len}
use Rattle.std.proofs.lemmas.List.{map-id}
use Rattle.std.proofs.lemmas.List.Concat.{flat_map-append}
use Rattle.std.proofs.lemmas.List.FromFn.{map-range_with_len_more}
use Rattle.std.proofs.Math.Nat.{add-mul}
use Rattle.graph_read.specs.declared.edge.Edge.{Edge}
use Rattle.graph_read.specs.Graphs.{GraphOf}
use Rattle.graph_read.specs.Grids.{AddsEdges, IsPlace, edge_where, edges_from, grid_vertex, row_edges}

-- at most two edges come from a vertex
pub edges_from_few : (side r c : ℕ) → length (edges_from side r c) ≤ 2
edges_from_few side r c =
    omega (
      arith,
      length-append (edge_where (nat_lt c side) (grid_vertex side r c) (grid_vertex side r (c + 1)))
          (edge_where (nat_lt r side) (grid_vertex side r c) (grid_vertex side (r + 1) c)),
      one (nat_lt c side) (grid_vertex side r c) (grid_vertex side r (c + 1)),
      one (nat_lt r side) (grid_vertex side r c) (grid_vertex side (r + 1) c),
    )
  where
    one : (there : Bool) (u v : ℕ) → length (edge_where there u v) ≤ 1
    one true u v = omega arith
    one false u v = omega arith

-- numbers from a place on, with one more
range_more : (a n : ℕ) → range_with_len a (n + 1) ≡ range_with_len a n ++ (a + n) ∷ []
range_more a n =
    sym (map-id (range_with_len a (n + 1))) ∙ map-range_with_len_more (λ (k : ℕ). k) a n (a + n) refl
    ∙ ap (λ ks. ks ++ (a + n) ∷ []) (map-id (range_with_len a n))

-- what comes of numbers from 1 on, with one more
pub flat_map_more : {X : Type 0} (f : ℕ → List X) (n : ℕ)
    → flat_map f (range_with_len 1 (n + 1)) ≡ flat_map f (range_with_len 1 n) ++ f (n + 1)
flat_map_more f n =
    let e : 1 + n ≡ n + 1 = omega arith in
    ap (flat_map f) (range_more 1 n) ∙ flat_map-append f (range_with_len 1 n) ((1 + n) ∷ [])
    ∙ ap (λ xs. flat_map f (range_with_len 1 n) ++ xs) (append-nil (f (1 + n)) ∙ ap f e)

-- at most so many come
flat_map_few : {X : Type 0} (f : ℕ → List X) (a n most : ℕ) → ((k : ℕ) → length (f k) ≤ most)
    → length (flat_map f (range_with_len a n)) ≤ n * most
flat_map_few f a zero most h = omega arith
flat_map_few f a (suc n) most h =
    omega (
      arith,
      length-append (f a) (flat_map f (range_with_len (a + 1) n)),
      h a,
      flat_map_few f (a + 1) n most h,
      add-mul n 1 most,
      let e : n + 1 ≡ suc n = omega arith in ap (λ x. x * most) e,
    )

-- the edges from the first vertices of a row, and from the first rows
pub row_few : (side r k : ℕ) → length (flat_map (edges_from side r) (range_with_len 1 k)) ≤ k * 2
row_few side r k = flat_map_few (edges_from side r) 1 k 2 (edges_from_few side r)

-- at most twice a row come from each of the first rows
pub rows_few : (side k : ℕ) → length (flat_map (row_edges side) (range_with_len 1 k)) ≤ k * (side * 2)
rows_few side k = flat_map_few (row_edges side) 1 k (side * 2) (λ r. row_few side r side)

-- edges on edges
pub adds_on : (f g h : GraphOf) (xs ys : List Edge) → AddsEdges f g xs → AddsEdges g h ys → AddsEdges f h (xs ++ ys)
adds_on f g h xs ys a b =
    b ∙ ap (λ k. let r : GraphOf = record { vertices = k.vertices; edges = k.edges ++ ys } in r) a
    ∙ ap (λ es. let r : GraphOf = record { vertices = f.vertices; edges = es } in r) (append_assoc f.edges xs ys)

-- a place to the right, and one below
pub right_place : (side r c : ℕ) → IsPlace side r c → c < side → IsPlace side r (c + 1)
right_place side r c at less =
    record { row = at.row; row_in = at.row_in; column = omega arith; column_in = omega (arith, less) }

-- the place below
pub place_below : (side r c : ℕ) → IsPlace side r c → r < side → IsPlace side (r + 1) c
place_below side r c at less =
    record { row = omega arith; row_in = omega (arith, less); column = at.column; column_in = at.column_in }
