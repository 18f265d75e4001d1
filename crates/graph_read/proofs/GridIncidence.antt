-- In a grid the edges at a vertex lead to its neighbours.
-- The edges come row by row, and in a row column by column: from each vertex one to its right and one to the vertex
-- below. So a vertex is touched by an edge from the one above it, by an edge from the one to its left, and by the two
-- from itself, in this order, and no edge from any other vertex touches it. Vertices of different places differ, as a
-- row has no more vertices than the grid has columns.
use Rattle.std.proofs.Common.{◌≡◌, inl, inr, ℕ, ◌+◌, ◌-◌, ◌*◌, ◌/◌, ◌%◌, ◌<◌, ◌≤◌, suc, Bool, true, false, not, ◌&&◌, ◌||◌, nat_eq, nat_lt, cond, List, [], ◌∷◌, ◌++◌, length, map, filter, flat_map, get_or, arith, refl, sym, ap, ap₂, ◌∙◌, append_assoc}
use Rattle.std.specs.List.{range_with_len, enumerate_from}
use Rattle.std.proofs.lemmas.Bool.{cases_eq, cases_lt, eq-eqb, ne_eqb, lt-ltb, le-ltb, ltb-true}
use Rattle.std.proofs.lemmas.List.{map-append}
use Rattle.std.proofs.lemmas.List.Elements.{filter-append}
use Rattle.std.proofs.lemmas.Nat.{div_below, mod_below}
use Rattle.std.proofs.Math.Nat.{add-mul}
use Rattle.graph_read.specs.declared.edge.Edge.{Edge}
use Rattle.graph_read.specs.Graphs.{GraphOf, IsVertex, edge_at}
use Rattle.graph_read.specs.Grids.{IsPlace, IsSide, edge_where, edges_from, grid_neighbours, grid_of, grid_vertex, row_edges, vertex_where}
use Rattle.graph_read.specs.Incidence.{edges_at, neighbours_of, other_end}
use Rattle.graph_read.proofs.GridPaths.{vertex_at}
use Rattle.graph_read.proofs.GridPlaces.{place_below, right_place}
use Rattle.graph_read.proofs.IncidenceLemmas.{at_from, stands_at}
use Rattle.graph_read.proofs.NumbersInARow.{none_comes, one_comes, two_come}

-- ---- edges by their numbers

-- the edges that stand at a vertex
abbrev pub standing : ℕ → List Edge → List Edge
standing w es = filter (λ e. stands_at e w) es

-- where they lead
abbrev leads : ℕ → List Edge → List ℕ
leads w es = map (λ e. other_end e w) (standing w es)

-- what is told of edges by their numbers is told of the edges themselves
by_numbers : {X : Type 0} (f : Edge → X) (edge : ℕ → Edge) (w n : ℕ) (d : Edge) (es : List Edge)
    → ((k : ℕ) → k < length es → edge (n + k) ≡ get_or es k d)
    → map (λ i. f (edge i)) (at_from w n es) ≡ map f (standing w es)
by_numbers f edge w n d [] are = refl
by_numbers {X} f edge w n d (e ∷ es) are =
    by (stands_at e w)
    (ap edge (let same : n ≡ n + 0 = omega arith in same) ∙ are 0 (omega arith))
    (by_numbers f edge w (n + 1) d es
    (λ k less. ap edge (let same : n + 1 + k ≡ n + (suc k) = omega arith in same)
    ∙ are (suc k) (omega (arith, less))))
  where
    by : (b : Bool) → edge n ≡ e → map (λ i. f (edge i)) (at_from w (n + 1) es) ≡ map f (standing w es) → map (λ i. f (edge i)) (map (λ p. p.0) (cond {A = List (ℕ × Edge)} b
        ((n, e) ∷ filter (λ p. stands_at p.1 w) (enumerate_from (n + 1) es))
        (filter (λ p. stands_at p.1 w) (enumerate_from (n + 1) es))))
        ≡ map f (cond b (e ∷ standing w es) (standing w es))
    by true here rest = ap₂ (λ x xs. x ∷ xs) (ap f here) rest
    by false here rest = rest

-- of the edges at a vertex of a graph
pub at_vertex_by_numbers : {X : Type 0} (f : Edge → X) (g : GraphOf) (w : ℕ)
    → map (λ i. f (edge_at g i)) (edges_at g w) ≡ map f (standing w g.edges)
at_vertex_by_numbers f g w =
    let d : Edge = record { u = 0; v = 0; weight = 0 } in
    by_numbers f (edge_at g) w 0 d g.edges
    (λ k less. ap (λ i. get_or g.edges i d) (let same : 0 + k ≡ k = omega arith in same))

-- where edges behind one another lead
leads-append : (w : ℕ) (xs ys : List Edge) → leads w (xs ++ ys) ≡ leads w xs ++ leads w ys
leads-append w xs ys =
    ap (map (λ e. other_end e w)) (filter-append (λ e. stands_at e w) xs ys)
    ∙ map-append (λ e. other_end e w) (standing w xs) (standing w ys)

-- where edges lead that come from numbers
leads-flat_map : (w : ℕ) (f : ℕ → List Edge) (ks : List ℕ)
    → leads w (flat_map f ks) ≡ flat_map (λ k. leads w (f k)) ks
leads-flat_map w f [] = refl
leads-flat_map w f (k ∷ ks) =
    leads-append w (f k) (flat_map f ks) ∙ ap (λ xs. leads w (f k) ++ xs) (leads-flat_map w f ks)

-- ---- where one edge leads

-- an edge of weight 1 leads from either end to the other
one_edge : (w u v : ℕ) → leads w (record { u = u; v = v; weight = 1 } ∷ [])
    ≡ cond ((nat_eq u w || nat_eq v w) && not (nat_eq u v)) (cond (nat_eq u w) v u ∷ []) []
one_edge w u v = by ((nat_eq u w || nat_eq v w) && not (nat_eq u v))
  where
    by : (b : Bool) → map (λ e. other_end e w) (cond b (record { u = u; v = v; weight = 1 } ∷ []) [])
        ≡ cond b (cond (nat_eq u w) v u ∷ []) []
    by true = refl
    by false = refl

-- an edge leads nowhere from a vertex that is none of its ends
apart_edge : (w : ℕ) (b : Bool) (u v : ℕ) → (u ≡ w → ⊥) → (b ≡ true → v ≡ w → ⊥)
    → leads w (edge_where b u v) ≡ []
apart_edge w true u v from to =
    one_edge w u v
    ∙ ap₂ (λ s t. cond ((s || t) && not (nat_eq u v)) (cond s v u ∷ []) []) (ne_eqb u w from) (ne_eqb v w (to refl))
apart_edge w false u v from to = refl

-- an edge leads from its first end
from_edge : (b : Bool) (u v : ℕ) → (u ≡ v → ⊥) → leads u (edge_where b u v) ≡ vertex_where b v
from_edge true u v apart =
    one_edge u u v
    ∙ ap₂ (λ s t. cond ((s || nat_eq v u) && not t) (cond s v u ∷ []) []) (eq-eqb u u refl) (ne_eqb u v apart)
from_edge false u v apart = refl

-- an edge leads from its second end
to_edge : (b : Bool) (u v : ℕ) → b ≡ true → (u ≡ v → ⊥) → leads v (edge_where b u v) ≡ u ∷ []
to_edge b u v is apart =
    ap (λ t. leads v (edge_where t u v)) is ∙ one_edge v u v
    ∙ ap₂ (λ s t. cond ((s || t) && not s) (cond s v u ∷ []) []) (ne_eqb u v apart) (eq-eqb v v refl)

-- ---- places and their vertices

-- the vertices of a lower row are greater
lower_row : (side r c s d : ℕ) → 1 ≤ r → r < s → c ≤ side → 1 ≤ d → grid_vertex side r c < grid_vertex side s d
lower_row side r c s d first less last some =
    let row : r ≡ r - 1 + 1 = omega arith in
    let rows : s - 1 ≡ r + (s - 1 - r) = omega arith in
    omega (
      arith,
      last,
      some,
      ap (λ x. x * side) row,
      add-mul (r - 1) 1 side,
      ap (λ x. x * side) rows,
      add-mul r (s - 1 - r) side,
    )

-- vertices of two rows differ
rows_apart : (side r c s d : ℕ) → IsPlace side r c → IsPlace side s d → (r ≡ s → ⊥)
    → grid_vertex side r c ≡ grid_vertex side s d → ⊥
rows_apart side r c s d at to apart same =
    elim (cases_lt r s) [
      | inl less ↦ let below = lower_row side r c s d at.row less at.column_in to.column in omega (arith, below, same)
      | inr more ↦
          let less : s < r = omega (arith, more, apart) in
          let below = lower_row side s d r c to.row less to.column_in at.column in omega (arith, below, same)
    ]

-- vertices of two places differ
places_apart : (side r c s d : ℕ) → IsPlace side r c → IsPlace side s d → (r ≡ s → c ≡ d → ⊥)
    → grid_vertex side r c ≡ grid_vertex side s d → ⊥
places_apart side r c s d at to apart same =
    elim (cases_eq r s) [
      | inl is ↦ apart is (omega (arith, same, ap (λ x. (x - 1) * side) is))
      | inr other ↦ rows_apart side r c s d at to other same
    ]

-- ---- the edges from a vertex, and where they lead from another

-- the edges from a place lead nowhere from another one, but from the places to its right and below
elsewhere : (side r c s d : ℕ) → IsPlace side r c → IsPlace side s d → (s ≡ r → d ≡ c → ⊥)
    → (s ≡ r → d + 1 ≡ c → ⊥) → (s + 1 ≡ r → d ≡ c → ⊥)
    → leads (grid_vertex side r c) (edges_from side s d) ≡ []
elsewhere side r c s d at to here left above =
    let w = grid_vertex side r c in
    let u = grid_vertex side s d in
    leads-append w (edge_where (nat_lt d side) u (grid_vertex side s (d + 1)))
    (edge_where (nat_lt s side) u (grid_vertex side (s + 1) d))
    ∙ ap₂ (λ xs ys. xs ++ ys)
    (apart_edge w (nat_lt d side) u (grid_vertex side s (d + 1)) (places_apart side s d r c to at here)
    (λ is. places_apart side s (d + 1) r c (right_place side s d to (ltb-true d side is)) at left))
    (apart_edge w (nat_lt s side) u (grid_vertex side (s + 1) d) (places_apart side s d r c to at here)
    (λ is. places_apart side (s + 1) d r c (place_below side s d to (ltb-true s side is)) at above))

-- those from the vertex itself lead to its right and below
from_here : (side r c : ℕ) → IsPlace side r c → leads (grid_vertex side r c) (edges_from side r c)
    ≡ vertex_where (nat_lt c side) (grid_vertex side r (c + 1))
    ++ vertex_where (nat_lt r side) (grid_vertex side (r + 1) c)
from_here side r c at =
    let u = grid_vertex side r c in
    let below = lower_row side r c (r + 1) c at.row (omega arith) at.column_in at.column in
    leads-append u (edge_where (nat_lt c side) u (grid_vertex side r (c + 1)))
    (edge_where (nat_lt r side) u (grid_vertex side (r + 1) c))
    ∙ ap₂ (λ xs ys. xs ++ ys)
    (from_edge (nat_lt c side) u (grid_vertex side r (c + 1)) (λ same. omega (arith, same)))
    (from_edge (nat_lt r side) u (grid_vertex side (r + 1) c) (λ same. omega (arith, same, below)))

-- those from the vertex to its left lead there
from_left : (side r b c : ℕ) → IsPlace side r b → IsPlace side r c → c ≡ b + 1
    → leads (grid_vertex side r c) (edges_from side r b) ≡ grid_vertex side r b ∷ []
from_left side r b c to at next =
    let w = grid_vertex side r c in
    let u = grid_vertex side r b in
    let apart : u ≡ w → ⊥ = λ same. omega (arith, same, next) in
    let less : b < side = omega (arith, next, at.column_in) in
    leads-append w (edge_where (nat_lt b side) u (grid_vertex side r (b + 1)))
    (edge_where (nat_lt r side) u (grid_vertex side (r + 1) b))
    ∙ ap₂ (λ xs ys. xs ++ ys)
    (ap (λ x. leads w (edge_where (nat_lt b side) u (grid_vertex side r x))) (sym next)
    ∙ to_edge (nat_lt b side) u w (lt-ltb b side less) apart)
    (apart_edge w (nat_lt r side) u (grid_vertex side (r + 1) b) apart
    (λ is. places_apart side (r + 1) b r c (place_below side r b to (ltb-true r side is)) at
    (λ same _. omega (arith, same))))

-- those from the vertex above it lead there
from_above : (side q r c : ℕ) → IsPlace side q c → IsPlace side r c → r ≡ q + 1
    → leads (grid_vertex side r c) (edges_from side q c) ≡ grid_vertex side q c ∷ []
from_above side q r c to at next =
    let w = grid_vertex side r c in
    let u = grid_vertex side q c in
    let apart = places_apart side q c r c to at (λ same _. omega (arith, same, next)) in
    let less : q < side = omega (arith, next, at.row_in) in
    leads-append w (edge_where (nat_lt c side) u (grid_vertex side q (c + 1)))
    (edge_where (nat_lt q side) u (grid_vertex side (q + 1) c))
    ∙ ap₂ (λ xs ys. xs ++ ys)
    (apart_edge w (nat_lt c side) u (grid_vertex side q (c + 1)) apart
    (λ is. places_apart side q (c + 1) r c (right_place side q c to (ltb-true c side is)) at
    (λ same _. omega (arith, same, next))))
    (ap (λ x. leads w (edge_where (nat_lt q side) u (grid_vertex side x c))) (sym next)
    ∙ to_edge (nat_lt q side) u w (lt-ltb q side less) apart)

-- ---- the edges from a row, and where they lead from a vertex

-- those of rows that are neither that of the vertex nor the one above lead nowhere
row_elsewhere : (side r c s : ℕ) → IsPlace side r c → 1 ≤ s → s < 1 + side → (s ≡ r → ⊥) → (s + 1 ≡ r → ⊥)
    → leads (grid_vertex side r c) (row_edges side s) ≡ []
row_elsewhere side r c s at first last here above =
    let w = grid_vertex side r c in
    leads-flat_map w (edges_from side s) (range_with_len 1 side)
    ∙ none_comes (λ d. leads w (edges_from side s d)) 1 side
    (λ d low high. elsewhere side r c s d at
    (record { row = first; row_in = omega (arith, last); column = low; column_in = omega (arith, high) })
    (λ same _. here same) (λ same _. here same) (λ same _. above same))

-- those of the row above lead to the vertex above
row_above : (side q r c : ℕ) → IsPlace side q c → IsPlace side r c → r ≡ q + 1
    → leads (grid_vertex side r c) (row_edges side q) ≡ grid_vertex side q c ∷ []
row_above side q r c to at next =
    let w = grid_vertex side r c in
    leads-flat_map w (edges_from side q) (range_with_len 1 side)
    ∙ one_comes (λ d. leads w (edges_from side q d)) c 1 side at.column (omega (arith, at.column_in))
    (λ d low high other. elsewhere side r c q d at
    (record { row = to.row; row_in = to.row_in; column = low; column_in = omega (arith, high) })
    (λ same _. omega (arith, same, next)) (λ same _. omega (arith, same, next)) (λ _ same. other same))
    ∙ from_above side q r c to at next

-- where the edges from a vertex lead
abbrev onward : ℕ → ℕ → ℕ → List ℕ
onward side r c =
    vertex_where (nat_lt c side) (grid_vertex side r (c + 1))
    ++ vertex_where (nat_lt r side) (grid_vertex side (r + 1) c)

-- those of its own row lead to the vertices to the left, to the right and below
row_here : (side r c : ℕ) → IsPlace side r c → leads (grid_vertex side r c) (row_edges side r)
    ≡ vertex_where (nat_lt 1 c) (grid_vertex side r (c - 1)) ++ onward side r c
row_here side r c at =
    let w = grid_vertex side r c in
    let left = grid_vertex side r (c - 1) in
    let in_row : (d : ℕ) → 1 ≤ d → d < 1 + side → IsPlace side r d =
    λ d low high. record { row = at.row; row_in = at.row_in; column = low; column_in = omega (arith, high) } in
    leads-flat_map w (edges_from side r) (range_with_len 1 side)
    ∙ elim (cases_lt 1 c) [
      | inl more ↦
          let next : c ≡ c - 1 + 1 = omega (arith, more) in
          two_come (λ d. leads w (edges_from side r d)) (c - 1) c 1 side next (omega (arith, more))
          (omega (arith, at.column_in))
          (λ d low high before other. elsewhere side r c r d at (in_row d low high) (λ _ same. other same)
          (λ _ same. before (omega (arith, same))) (λ same _. omega (arith, same)))
          ∙ ap₂ (λ xs ys. xs ++ ys)
          (from_left side r (c - 1) c
          (in_row (c - 1) (omega (arith, more)) (omega (arith, at.column_in))) at next
          ∙ sym (ap (λ b. vertex_where b left) (lt-ltb 1 c more))) (from_here side r c at)
      | inr least ↦
          one_comes (λ d. leads w (edges_from side r d)) c 1 side at.column (omega (arith, at.column_in))
          (λ d low high other. elsewhere side r c r d at (in_row d low high) (λ _ same. other same)
          (λ _ same. omega (arith, same, least, low)) (λ same _. omega (arith, same)))
          ∙ from_here side r c at ∙ sym (ap (λ b. vertex_where b left ++ onward side r c) (le-ltb 1 c least))
    ]

-- four lists behind one another
regroup : {X : Type 0} (a b c d : List X) → a ++ (b ++ (c ++ d)) ≡ a ++ b ++ c ++ d
regroup a b c d = sym (append_assoc a b (c ++ d)) ∙ sym (append_assoc (a ++ b) c d)

-- the edges of a grid lead from a vertex to its neighbours
grid_leads : (side r c : ℕ) → IsPlace side r c
    → leads (grid_vertex side r c) (grid_of side).edges ≡ grid_neighbours side r c
grid_leads side r c at =
    let w = grid_vertex side r c in
    let above = grid_vertex side (r - 1) c in
    let behind = vertex_where (nat_lt 1 c) (grid_vertex side r (c - 1)) ++ onward side r c in
    leads-flat_map w (row_edges side) (range_with_len 1 side)
    ∙ elim (cases_lt 1 r) [
      | inl more ↦
          let next : r ≡ r - 1 + 1 = omega (arith, more) in
          let to : IsPlace side (r - 1) c =
          record {
            row = omega (arith, more);
            row_in = omega (arith, at.row_in);
            column = at.column;
            column_in = at.column_in;
          } in
          two_come (λ s. leads w (row_edges side s)) (r - 1) r 1 side next (omega (arith, more))
          (omega (arith, at.row_in))
          (λ s low high before other. row_elsewhere side r c s at low high other
          (λ same. before (omega (arith, same))))
          ∙ ap₂ (λ xs ys. xs ++ ys)
          (row_above side (r - 1) r c to at next ∙ sym (ap (λ b. vertex_where b above) (lt-ltb 1 r more)))
          (row_here side r c at)
      | inr least ↦
          one_comes (λ s. leads w (row_edges side s)) r 1 side at.row (omega (arith, at.row_in))
          (λ s low high other. row_elsewhere side r c s at low high other (λ same. omega (arith, same, least, low)))
          ∙ row_here side r c at ∙ sym (ap (λ b. vertex_where b above ++ behind) (le-ltb 1 r least))
    ]
    ∙ regroup (vertex_where (nat_lt 1 r) above) (vertex_where (nat_lt 1 c) (grid_vertex side r (c - 1)))
    (vertex_where (nat_lt c side) (grid_vertex side r (c + 1)))
    (vertex_where (nat_lt r side) (grid_vertex side (r + 1) c))

-- the other ends of the edges at a vertex of a grid
pub neighbours_in_grid : (side r c : ℕ) → IsPlace side r c
    → neighbours_of (grid_of side) (grid_vertex side r c) ≡ grid_neighbours side r c
neighbours_in_grid side r c at =
    at_vertex_by_numbers (λ e. other_end e (grid_vertex side r c)) (grid_of side) (grid_vertex side r c)
    ∙ grid_leads side r c at

-- ---- a vertex and its neighbours by their numbers

-- the place of a vertex
place_of_vertex : (side w : ℕ) → 1 ≤ side → IsVertex (side * side) w
    → IsPlace side ((w - 1) / side + 1) ((w - 1) % side + 1)
place_of_vertex side w some vertex =
    let below : w - 1 < side * side =
    let first = vertex.first in let last = vertex.last in omega (arith, first, last) in
    record {
      row = omega arith;
      row_in = omega (arith, div_below (w - 1) side side some below);
      column = omega arith;
      column_in = omega (arith, mod_below (w - 1) side some);
    }

-- only a vertex that is there matters
where_same : (b : Bool) (u v : ℕ) → (b ≡ true → u ≡ v) → vertex_where b u ≡ vertex_where b v
where_same true u v same = ap (λ x. x ∷ []) (same refl)
where_same false u v same = refl

-- the vertex of the row below has so many more
next_row : (side r c : ℕ) → 1 ≤ r → grid_vertex side (r + 1) c ≡ grid_vertex side r c + side
next_row side r c first =
    let row : r + 1 - 1 ≡ r - 1 + 1 = omega (arith, first) in
    omega (arith, ap (λ x. x * side) row, add-mul (r - 1) 1 side)

-- the neighbours of the vertex in a row and column, by its number
by_places : (side r c w : ℕ) → IsPlace side r c → grid_vertex side r c ≡ w
    → vertex_where (nat_lt 1 r) (w - side) ++ vertex_where (nat_lt 1 c) (w - 1)
    ++ vertex_where (nat_lt c side) (w + 1) ++ vertex_where (nat_lt r side) (w + side)
    ≡ neighbours_of (grid_of side) w
by_places side r c w at is =
    ap₂ (λ xs ys. xs ++ ys)
    (ap₂ (λ xs ys. xs ++ ys)
    (ap₂ (λ xs ys. xs ++ ys)
    (where_same (nat_lt 1 r) (w - side) (grid_vertex side (r - 1) c)
    (λ more. let above = next_row side (r - 1) c (omega (arith, ltb-true 1 r more)) in
    let row : r - 1 + 1 ≡ r = omega (arith, at.row) in
    omega (arith, is, above, ap (λ x. grid_vertex side x c) row)))
    (where_same (nat_lt 1 c) (w - 1) (grid_vertex side r (c - 1)) (λ more. omega (arith, is, ltb-true 1 c more))))
    (where_same (nat_lt c side) (w + 1) (grid_vertex side r (c + 1)) (λ less. omega (arith, is))))
    (where_same (nat_lt r side) (w + side) (grid_vertex side (r + 1) c)
    (λ less. omega (arith, is, next_row side r c at.row)))
    ∙ sym (neighbours_in_grid side r c at) ∙ ap (neighbours_of (grid_of side)) is

-- the neighbours of a vertex, by its number
pub by_number : (side w : ℕ) → IsSide side → IsVertex (side * side) w
    → vertex_where (nat_lt 1 ((w - 1) / side + 1)) (w - side)
    ++ vertex_where (nat_lt 1 ((w - 1) % side + 1)) (w - 1)
    ++ vertex_where (nat_lt ((w - 1) % side + 1) side) (w + 1)
    ++ vertex_where (nat_lt ((w - 1) / side + 1) side) (w + side)
    ≡ neighbours_of (grid_of side) w
by_number side w is vertex =
    by_places side ((w - 1) / side + 1) ((w - 1) % side + 1) w (place_of_vertex side w is.some vertex)
    (vertex_at side w vertex.first)
