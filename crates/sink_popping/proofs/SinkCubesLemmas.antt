-- The cube of a vertex without a loop: the pairs of the edges at it are a cube where there is one, and it is the only
-- one that has just these edges. Two vertices have different cubes, since an edge doesn't point to both its ends.
use Rattle.std.proofs.Common.{inl, inr, ◌≡◌, ◌≢◌, ℕ, ◌+◌, ◌*◌, ◌/◌, ◌%◌, ◌<◌, ◌≤◌, Bool, true, false, not, ◌&&◌, ◌==◌, cond, List, length, map, get_or, Some, slice_get, refl, sym, ap, ap₂, subst, ◌∙◌, arith, Contains, slice_index, eq-eqb, ne_eqb, eqb-true}
use Rattle.std.specs.List.Sorted.{IsStrictlyIncreasing}
use Rattle.std.proofs.lemmas.Bool.{cases_eq, and_parts, and_from, or_cases, false≢true, not_from_false, false_from_ne_true}
use Rattle.std.proofs.lemmas.List.{length-map, get_or-map, ext_get_or}
use Rattle.std.proofs.lemmas.List.Elements.{Contains-get_or}
use Rattle.std.proofs.lemmas.List.Folds.{Any-from_list_any, list_any_at}
use Rattle.std.proofs.lemmas.Option.{same_Some, slice_get_within, slice_get-get_or, get_or_from_slice_get}
use Rattle.pop_model.specs.Popping.{Cube, IsCube, variables}
use Rattle.pop_model.proofs.Members.{variable_at}
use Rattle.pop_model.proofs.Rising.{same_rising}
use Rattle.graph_read.specs.declared.edge.Edge.{Edge}
use Rattle.graph_read.specs.Graphs.{GraphOf, IsVertex, edge_at}
use Rattle.graph_read.specs.Incidence.{is_loop, touches, listed_edges, edges_at, dart_at, darts_at}
use Rattle.sink_popping.specs.Sinks.{pointing_to, PointsTo, has_loop, HasSink, IsIsolated}
use Rattle.sink_popping.specs.SinkCubes.{pair_of, pairs_at}
use Rattle.graph_read.proofs.Numbering.{contains_map, contains_map_from, numbered_are, has_numbered, numbered_rise, length-numbered}

-- ---- edges and their ends

-- an edge doesn't point to both its ends at one value
pub points_apart : (edge : Edge) (v w : ℕ) → touches edge v ≡ true → touches edge w ≡ true → v ≢ w
    → pointing_to edge v ≢ pointing_to edge w
points_apart edge v w touches_v touches_w differ same = elim (cases_eq edge.v v) [
  | inl here ↦
      let at_v : ◌≡◌ {A = ℕ} (pointing_to edge v) 0 = ap (λ b. cond b 0 1) (eq-eqb edge.v v here) in
      let at_w : ◌≡◌ {A = ℕ} (pointing_to edge w) 1 =
      ap (λ b. cond b 0 1) (ne_eqb edge.v w (λ there. differ (sym here ∙ there))) in
      absurd (omega (arith, at_v, at_w, same))
  | inr not_here ↦ elim (cases_eq edge.v w) [
    | inl there ↦
        let at_v : ◌≡◌ {A = ℕ} (pointing_to edge v) 1 = ap (λ b. cond b 0 1) (ne_eqb edge.v v not_here) in
        let at_w : ◌≡◌ {A = ℕ} (pointing_to edge w) 0 = ap (λ b. cond b 0 1) (eq-eqb edge.v w there) in
        absurd (omega (arith, at_v, at_w, same))
    | inr not_there ↦
        absurd (differ (sym (starts_at edge v touches_v not_here) ∙ starts_at edge w touches_w not_there))
  ]
]
  where
    -- an end of the edge that isn't v is u
    starts_at : (e : Edge) (x : ℕ) → touches e x ≡ true → (e.v ≡ x → ⊥) → e.u ≡ x
    starts_at e x touched other = elim (or_cases (e.u == x) (e.v == x) touched) [
      | inl u_is ↦ eqb-true e.u x u_is
      | inr v_is ↦ absurd (other (eqb-true e.v x v_is))
    ]

-- the values are two
pub pointing_small : (edge : Edge) (w : ℕ) → pointing_to edge w < 2
pointing_small edge w = elim (edge.v == w) as (λ b. cond b 0 1 < 2) [ true ↦ omega arith | false ↦ omega arith ]

-- where there is no loop at the vertex, no edge that touches it is one
pub touching_is_no_loop : (g : GraphOf) (w i : ℕ) (edge : Edge) → has_loop g w ≡ false → slice_get g.edges i ≡ Some edge
    → touches edge w ≡ true → is_loop edge ≡ false
touching_is_no_loop g w i edge none at touched =
    false_from_ne_true (is_loop edge) (λ loop.
    let IsLoopAt : Edge → Bool = λ e. is_loop e && touches e w in
    let here : IsLoopAt (get_or g.edges i edge) ≡ true =
    ap IsLoopAt (get_or_from_slice_get g.edges i edge edge at)
    ∙ and_from (is_loop edge) (touches edge w) loop touched in
    false≢true (sym none ∙ list_any_at IsLoopAt g.edges i edge (slice_get_within g.edges i edge at) here))

-- ---- the cube of a vertex

-- an edge for places where there is none
abbrev no_edge : Edge
no_edge = record { u = 0; v = 0; weight = 0 }

-- as many pairs as edges
pub length-pairs_at : (g : GraphOf) (w : ℕ) → length (pairs_at g w) ≡ length (edges_at g w)
length-pairs_at g w =
    length-map (listed_edges g w) (λ (p : ℕ × Edge). (p.0, pointing_to p.1 w))
    ∙ sym (length-map (listed_edges g w) (λ (p : ℕ × Edge). p.0))

-- the variable of a pair is its edge's number
variable_is : (g : GraphOf) (w k : ℕ) → k < length (listed_edges g w)
    → slice_index (variables (pairs_at g w)) k ≡ (get_or (listed_edges g w) k (0, no_edge)).0
variable_is g w k within =
    let pair : ℕ × Edge → ℕ × ℕ = λ p. (p.0, pointing_to p.1 w) in
    let size : length (pairs_at g w) ≡ length (listed_edges g w) = length-map (listed_edges g w) pair in
    variable_at (pairs_at g w) k (omega (arith, size, within))
    ∙ ap (λ (p : ℕ × ℕ). p.0) (get_or-map pair (listed_edges g w) k (0, no_edge) (0, 0) within)

-- the variables rise
pairs_rise : (g : GraphOf) (w : ℕ) → IsStrictlyIncreasing (variables (pairs_at g w))
pairs_rise g w k within =
    let size : length (variables (pairs_at g w)) ≡ length (listed_edges g w) =
    length-map (pairs_at g w) (λ (p : ℕ × ℕ). p.0)
    ∙ length-map (listed_edges g w) (λ (p : ℕ × Edge). (p.0, pointing_to p.1 w)) in
    let here = variable_is g w k (omega (arith, size, within)) in
    let there = variable_is g w (k + 1) (omega (arith, size, within)) in
    let up = numbered_rise (λ e. touches e w && not (is_loop e)) g.edges k (k + 1) (0, no_edge) (omega arith)
    (omega (arith, size, within)) in
    omega (arith, here, there, up)

-- there are no more of them than edges
pub pairs_fit : (g : GraphOf) (w : ℕ) → length (pairs_at g w) ≤ length g.edges
pairs_fit g w =
    omega (
      arith,
      length-pairs_at g w,
      length-map (listed_edges g w) (λ (p : ℕ × Edge). p.0),
      length-numbered (λ e. touches e w && not (is_loop e)) g.edges,
    )

-- the edge in place k at the vertex
listed_at : (g : GraphOf) (w k : ℕ) → k < length (edges_at g w)
    → slice_get g.edges (get_or (edges_at g w) k 0) ≡ Some (get_or (listed_edges g w) k (0, no_edge)).1
listed_at g w k within =
    let size = length-map (listed_edges g w) (λ (p : ℕ × Edge). p.0) in
    let inside : k < length (listed_edges g w) = omega (arith, size, within) in
    ap (slice_get g.edges) (get_or-map (λ (p : ℕ × Edge). p.0) (listed_edges g w) k (0, no_edge) 0 inside)
    ∙ (numbered_are (λ e. touches e w && not (is_loop e)) g.edges k (0, no_edge) inside).0

-- an edge and a value are the pair of a dart
pair_is : (i x : ℕ) → x < 2 → pair_of (2 * i + x) ≡ (i, x)
pair_is i x two =
    let half : (2 * i + x) / 2 ≡ i = omega (arith, two) in
    let rest : (2 * i + x) % 2 ≡ x = omega (arith, two) in
    ap₂ (λ (a b : ℕ). (a, b)) half rest

-- the pairs at a vertex are those of the darts there
pub pairs_of_darts : (g : GraphOf) (w : ℕ) → map pair_of (darts_at g w) ≡ pairs_at g w
pairs_of_darts g w =
    let number : ℕ × Edge → ℕ = λ p. p.0 in
    let pair : ℕ × Edge → ℕ × ℕ = λ p. (p.0, pointing_to p.1 w) in
    let dart : ℕ → ℕ = λ i. dart_at i (edge_at g i) w in
    let edges : List ℕ = edges_at g w in
    let size : length (map pair_of (darts_at g w)) ≡ length edges =
    length-map (darts_at g w) pair_of ∙ length-map edges dart in
    ext_get_or (0, 0) (map pair_of (darts_at g w)) (pairs_at g w) (size ∙ sym (length-pairs_at g w))
    (λ k below.
    let within : k < length edges = omega (arith, size, below) in
    let listed : ℕ × Edge = get_or (listed_edges g w) k (0, no_edge) in
    let few = length-map (listed_edges g w) number in
    let inside : k < length (listed_edges g w) = omega (arith, few, within) in
    let i : ℕ = get_or edges k 0 in
    let number_is : i ≡ listed.0 = get_or-map number (listed_edges g w) k (0, no_edge) 0 inside in
    let edge_is : edge_at g i ≡ listed.1 =
    get_or_from_slice_get g.edges i listed.1 no_edge (listed_at g w k within) in
    get_or-map pair_of (darts_at g w) k 0 (0, 0) (omega (arith, length-map edges dart, within))
    ∙ ap pair_of (get_or-map dart edges k 0 0 within)
    ∙ pair_is i (pointing_to (edge_at g i) w) (pointing_small (edge_at g i) w)
    ∙ ap₂ (λ (n : ℕ) (e : Edge). (n, pointing_to e w)) number_is edge_is
    ∙ sym (get_or-map pair (listed_edges g w) k (0, no_edge) (0, 0) inside))

-- where there is an edge, the pairs are a cube
pub pairs_are_cube : (g : GraphOf) (w : ℕ) → 0 < length (edges_at g w) → IsCube (pairs_at g w)
pairs_are_cube g w some = record { some = omega (arith, length-pairs_at g w, some); rising = pairs_rise g w }

-- without a loop at the vertex they are just the edges that touch it
exact_pairs : (g : GraphOf) (w i x : ℕ) → has_loop g w ≡ false
    → (Contains (pairs_at g w) (i, x) → PointsTo g w i x) × (PointsTo g w i x → Contains (pairs_at g w) (i, x))
exact_pairs g w i x none =
    let IsAt : Edge → Bool = λ e. touches e w && not (is_loop e) in
    let pair : ℕ × Edge → ℕ × ℕ = λ p. (p.0, pointing_to p.1 w) in (
      λ has.
          let (p, (k, within, at), is) = contains_map_from pair (listed_edges g w) (i, no_edge) (i, x) has in
          let found = numbered_are IsAt g.edges k p within in
          let place : slice_get g.edges p.0 ≡ Some p.1 =
          subst (λ (q : ℕ × Edge). slice_get g.edges q.0 ≡ Some q.1) at found.0 in
          let passes : IsAt p.1 ≡ true = subst (λ (q : ℕ × Edge). IsAt q.1 ≡ true) at found.1 in
          record {
            edge = p.1;
            edge_is = ap (slice_get g.edges) (sym (ap (λ (q : ℕ × ℕ). q.0) is)) ∙ place;
            touches_it = (and_parts (touches p.1 w) (not (is_loop p.1)) passes).0;
            value = sym (ap (λ (q : ℕ × ℕ). q.1) is);
          },
      λ points.
          let no_loop = touching_is_no_loop g w i points.edge none points.edge_is points.touches_it in
          let passes : IsAt points.edge ≡ true =
          and_from (touches points.edge w) (not (is_loop points.edge)) points.touches_it
          (not_from_false (is_loop points.edge) no_loop) in
          subst (λ y. Contains (pairs_at g w) (i, y)) (sym points.value)
          (contains_map pair (listed_edges g w) (i, points.edge)
          (has_numbered IsAt g.edges i points.edge points.edge_is passes)),
    )

-- so they are the cube of the vertex
pub pairs_are_sink : (g : GraphOf) (w : ℕ) → IsVertex g.vertices w → has_loop g w ≡ false → 0 < length (edges_at g w)
    → HasSink g w (pairs_at g w)
pairs_are_sink g w vertex none some = record {
  vertex = vertex;
  no_loop = none;
  sink = record { cube = pairs_are_cube g w some; exact = λ i x. exact_pairs g w i x none };
}

-- and no other cube is
pub one_sink : (g : GraphOf) (w : ℕ) (e f : Cube) → HasSink g w e → HasSink g w f → e ≡ f
one_sink g w e f one other =
    same_rising (λ (p : ℕ × ℕ). p.0) e f one.sink.cube.rising other.sink.cube.rising
    (λ p has. (other.sink.exact p.0 p.1).1 ((one.sink.exact p.0 p.1).0 has))
    (λ p has. (one.sink.exact p.0 p.1).1 ((other.sink.exact p.0 p.1).0 has))

-- ---- several vertices

-- an edge between two vertices that can be sinks points to them at different values
pub sinks_differ : (g : GraphOf) (v w i x y : ℕ) → v ≢ w → PointsTo g v i x → PointsTo g w i y → x ≢ y
sinks_differ g v w i x y differ here there same =
    let edges : there.edge ≡ here.edge = same_Some there.edge here.edge (sym there.edge_is ∙ here.edge_is) in
    points_apart here.edge v w here.touches_it (subst (λ e. touches e w ≡ true) edges there.touches_it) differ
    (sym here.value ∙ same ∙ there.value ∙ ap (λ e. pointing_to e w) edges)

-- two vertices have different cubes
pub sinks_apart : (g : GraphOf) (v w : ℕ) (e f : Cube) → v ≢ w → HasSink g v e → HasSink g w f → e ≢ f
sinks_apart g v w e f differ one other same =
    let p : ℕ × ℕ = get_or e 0 (0, 0) in
    let has : Contains e p = Contains-get_or e 0 (0, 0) one.sink.cube.some in
    sinks_differ g v w p.0 p.1 p.1 differ ((one.sink.exact p.0 p.1).0 has)
    ((other.sink.exact p.0 p.1).0 (subst (λ c. Contains c p) same has)) refl

-- ---- isolated vertices

-- an edge that touches a vertex says that it isn't isolated
touched_is_not_isolated : (g : GraphOf) (w i : ℕ) (edge : Edge) → slice_get g.edges i ≡ Some edge
    → touches edge w ≡ true → IsIsolated g w → ⊥
touched_is_not_isolated g w i edge at touched isolated =
    let none : touches (get_or g.edges i edge) w ≡ false =
    isolated.untouched i edge (slice_get_within g.edges i edge at) in
    false≢true (sym none ∙ ap (λ e. touches e w) (get_or_from_slice_get g.edges i edge edge at) ∙ touched)

-- a vertex that can be a sink isn't isolated
pub sink_is_not_isolated : (g : GraphOf) (w : ℕ) (e : Cube) → HasSink g w e → IsIsolated g w → ⊥
sink_is_not_isolated g w e sink isolated =
    let p : ℕ × ℕ = get_or e 0 (0, 0) in
    let points = (sink.sink.exact p.0 p.1).0 (Contains-get_or e 0 (0, 0) sink.sink.cube.some) in
    touched_is_not_isolated g w p.0 points.edge points.edge_is points.touches_it isolated

-- nor is one with a loop
pub loop_is_not_isolated : (g : GraphOf) (w : ℕ) → has_loop g w ≡ true → IsIsolated g w → ⊥
loop_is_not_isolated g w loops isolated =
    let (i, edge, within, at, is) = Any-from_list_any (λ (e : Edge). is_loop e && touches e w) g.edges loops in
    touched_is_not_isolated g w i edge (slice_get-get_or g.edges i edge within ∙ ap (λ e. Some e) at)
    (and_parts (is_loop edge) (touches edge w) is).1 isolated

-- a vertex without a loop and without other edges is isolated
pub lonely_is_isolated : (g : GraphOf) (w : ℕ) → IsVertex g.vertices w → has_loop g w ≡ false
    → length (edges_at g w) ≡ 0 → IsIsolated g w
lonely_is_isolated g w vertex none few = record {
  vertex = vertex;
  untouched = λ i d within.
      let edge : Edge = get_or g.edges i d in
      let at : slice_get g.edges i ≡ Some edge = slice_get-get_or g.edges i d within in
      false_from_ne_true (touches edge w) (λ touched.
      let no_loop = touching_is_no_loop g w i edge none at touched in
      let listed : Contains (listed_edges g w) (i, edge) =
      has_numbered (λ e. touches e w && not (is_loop e)) g.edges i edge at
      (and_from (touches edge w) (not (is_loop edge)) touched (not_from_false (is_loop edge) no_loop)) in
      let size = length-map (listed_edges g w) (λ (p : ℕ × Edge). p.0) in
      absurd (omega (arith, size, listed.1, few)));
}
