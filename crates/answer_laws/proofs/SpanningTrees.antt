-- The arrows of a spanning tree are those of some slots. Their tails increase through all vertices except the root, so
-- each is that of a variable. No arrow is along a loop, since it would lead to its own tail forever. So its edge is
-- among those at its tail, and has a place there. By these places the arrows lead to the root, as they do in the tree.
use Rattle.std.proofs.Common.{inl, inr, ◌≡◌, ◌≢◌, ℕ, zero, suc, ◌+◌, ◌-◌, ◌<◌, Bool, true, cond, ◌==◌, not, ◌&&◌, ◌||◌, List, [], ◌∷◌, length, map, get_or, slice_index, slice_get, Option, Some, None, refl, sym, ap, subst, ◌∙◌, arith, Contains, eq-eqb, ne_eqb, ext_get_or}
use Rattle.std.specs.List.{enumerate_from, range_with_len}
use Rattle.std.specs.List.Sorted.{IsStrictlyIncreasing}
use Rattle.std.proofs.lemmas.List.{map-id, length-map, get_or-map, get_or_default}
use Rattle.std.proofs.lemmas.List.Elements.{All-contains, Contains-get_or}
use Rattle.std.proofs.lemmas.List.FromFn.{length-enumerate_from, get_or-enumerate_from, length-map-range_with_len, get_or-map-range_with_len}
use Rattle.std.proofs.lemmas.List.Kept.{AllPairs-from_increasing}
use Rattle.std.proofs.lemmas.Option.{slice_get-get_or}
use Rattle.pop_model.specs.Names.{vertex_of}
use Rattle.pop_model.specs.Cycles.{ReachesRoot, head_of}
use Rattle.pop_model.proofs.Following.{cases_Option, follow_more}
use Rattle.pop_model.proofs.Rising.{same_rising}
use Rattle.graph_read.specs.declared.edge.Edge.{Edge}
use Rattle.graph_read.specs.Graphs.{GraphOf, IsGraph, IsVertex, edge_at}
use Rattle.graph_read.specs.Incidence.{edges_at, is_loop, listed_edges, other_end, touches}
use Rattle.graph_read.proofs.Numbering.{contains_map, has_numbered}
use Rattle.cycle_popping.specs.Trees.{heads_at, heads_of_tree, variable_of}
use Rattle.cycle_popping.proofs.TreeRows.{variable_below, vertex_of_is}
use Rattle.pop_print.proofs.TreePlaces.{vertex_rises}
use Rattle.printed_samples.specs.Arrows.{Arrow, HasEnds, IsAlong}
use Rattle.printed_samples.specs.Trees.{AreSteps, IsTreeTo, LeadWithin, arrows_to, slot_arrow}
use Rattle.printed_samples.proofs.Vertices.{no_variable, vertex_back}
use Rattle.answer_laws.specs.EverySample.{LeadsToRoot}
use Rattle.answer_laws.specs.PrintedOnce.{EverySpanningTree}
use Rattle.answer_laws.proofs.PrintedApart.{same_place}

-- numbers of which something holds, one for each of m places
record Chosen (m : ℕ) (P : ℕ → ℕ → Type 0) : Type 0 where
  numbers : List ℕ
  count : length numbers ≡ m
  each : (k : ℕ) → k < m → P k (slice_index numbers k)

-- they are there where there is one for each place
choose : (m : ℕ) (P : ℕ → ℕ → Type 0) → ((k : ℕ) → k < m → (x : ℕ) × P k x) → Chosen m P
choose zero P some = record { numbers = []; count = refl; each = λ k less. absurd (omega (arith, less)) }
choose (suc m) P some =
    let rest : Chosen m (λ k. P (suc k)) = choose m (λ k. P (suc k)) (λ k less. some (suc k) (omega (arith, less))) in
    let first : (x : ℕ) × P 0 x = some 0 (omega arith) in
    record {
      numbers = first.0 ∷ rest.numbers;
      count = ap suc rest.count;
      each = both first.0 rest.numbers first.1 rest.each;
    }
  where
    both : (x : ℕ) (numbers : List ℕ) → P 0 x → ((k : ℕ) → k < m → P (suc k) (slice_index numbers k)) → (k : ℕ)
        → k < suc m → P k (slice_index (x ∷ numbers) k)
    both x numbers here there zero less = here
    both x numbers here there (suc k) less = there k (omega (arith, less))

module _ (g : GraphOf) (root : ℕ) (arrows : List Arrow) (is : IsGraph g) (root_is : IsVertex g.vertices root)
    (tree : IsTreeTo g root arrows) where
  -- an arrow, for a place that has none
  blank : Arrow
  blank = record { tail = 0; head = 0; number = 0 }

  -- as many as variables
  size : length arrows ≡ g.vertices - 1
  size = let count = tree.count in omega (arith, count)

  -- the tail of the arrow at a place
  tail_at : (k : ℕ) (d : Arrow) → k < length arrows
      → get_or (map (λ (a : Arrow). a.tail) arrows) k 0 ≡ (get_or arrows k d).tail
  tail_at k d less = get_or-map (λ (a : Arrow). a.tail) arrows k d 0 less

  -- tails rise, so a tail tells its arrow
  one_arrow : (a b : Arrow) → Contains arrows a → Contains arrows b → a.tail ≡ b.tail → a ≡ b
  one_arrow a b (i, i_in, at_i) (j, j_in, at_j) same =
      let there_i : get_or arrows i blank ≡ a = get_or_default arrows i blank a i_in ∙ at_i in
      let there_j : get_or arrows j blank ≡ b = get_or_default arrows j blank b j_in ∙ at_j in
      let tails : List ℕ = map (λ (x : Arrow). x.tail) arrows in
      let long = length-map arrows (λ (x : Arrow). x.tail) in
      let place : i ≡ j = same_place tails (AllPairs-from_increasing tails tree.rising) i j (omega (arith, long, i_in))
      (omega (arith, long, j_in)) (tail_at i blank i_in ∙ ap (λ (x : Arrow). x.tail) there_i ∙ same
      ∙ sym (ap (λ (x : Arrow). x.tail) there_j) ∙ sym (tail_at j blank j_in)) in
      sym there_i ∙ ap (λ (k : ℕ). get_or arrows k blank) place ∙ there_j

  -- the vertices of the variables
  abbrev vertices : List ℕ
  vertices = map (vertex_of root) (range_with_len 0 (g.vertices - 1))

  -- as many
  vertices_count : length vertices ≡ g.vertices - 1
  vertices_count = length-map-range_with_len (vertex_of root) 0 (g.vertices - 1)

  -- each at its place
  vertex_there : (k d : ℕ) → k < g.vertices - 1 → get_or vertices k d ≡ vertex_of root k
  vertex_there k d less = get_or-map-range_with_len (vertex_of root) 0 (g.vertices - 1) k k d less (omega arith)

  -- they rise
  vertices_rise : IsStrictlyIncreasing vertices
  vertices_rise k within =
      let long = vertices_count in
      let here = vertex_there k 0 (omega (arith, within, long)) in
      let next = vertex_there (k + 1) 0 (omega (arith, within, long)) in
      let up = vertex_rises root k (k + 1) (omega arith) in
      omega (arith, here, next, up)

  -- the vertex of a variable is one but the root, and each of these is that of a variable
  to_variable : (w : ℕ) → IsVertex g.vertices w → w ≢ root → (v : ℕ) × (v < g.vertices - 1) × (vertex_of root v ≡ w)
  to_variable w vertex other = elim (cases_Option (variable_of root w)) [
    | inl none ↦ absurd (other (no_variable root w none))
    | inr (v, some) ↦ (
      v,
      variable_below g.vertices root w v root_is vertex some,
      vertex_back g.vertices root w v root_is.first vertex some,
    )
  ]

  -- the tails are these vertices
  tails_are : map (λ (a : Arrow). a.tail) arrows ≡ vertices
  tails_are =
      same_rising (λ (n : ℕ). n) (map (λ (a : Arrow). a.tail) arrows) vertices
      (subst IsStrictlyIncreasing (sym (map-id (map (λ (a : Arrow). a.tail) arrows))) tree.rising)
      (subst IsStrictlyIncreasing (sym (map-id vertices)) vertices_rise)
      (λ w (k, within, at).
      let long = length-map arrows (λ (a : Arrow). a.tail) in
      let inside : k < length arrows = omega (arith, within, long) in
      let known = tree.tails k blank inside in
      let here : (get_or arrows k blank).tail ≡ w =
      sym (get_or-map (λ (a : Arrow). a.tail) arrows k blank w inside) ∙ at in
      let (v, below, there) = to_variable (get_or arrows k blank).tail known.0 known.1 in
      (v, omega (arith, below, vertices_count), vertex_there v w below ∙ there ∙ here))
      (λ w (k, within, at).
      let long = vertices_count in
      let below : k < g.vertices - 1 = omega (arith, within, long) in
      let vertex = vertex_of_is g.vertices root k root_is below in
      let here : vertex_of root k ≡ w = sym (vertex_there k w below) ∙ at in
      subst (Contains (map (λ (a : Arrow). a.tail) arrows)) here (tree.each (vertex_of root k) vertex.vertex vertex.other))

  -- the arrow of a variable
  abbrev arrow : ℕ → Arrow
  arrow v = get_or arrows v blank

  -- it leaves its vertex
  tail_is : (v : ℕ) → v < g.vertices - 1 → (arrow v).tail ≡ vertex_of root v
  tail_is v below =
      sym (tail_at v blank (omega (arith, below, size))) ∙ ap (λ (l : List ℕ). get_or l v 0) tails_are
      ∙ vertex_there v 0 below

  -- it is one of them
  has_arrow : (v : ℕ) → v < g.vertices - 1 → Contains arrows (arrow v)
  has_arrow v below = Contains-get_or arrows v blank (omega (arith, below, size))

  -- from a vertex whose arrow leads to itself no arrows lead to the root
  never_leads : (w : ℕ) → w ≢ root → ((b : Arrow) → Contains arrows b → b.tail ≡ w → b.head ≡ w)
      → (path : List Arrow) → AreSteps arrows w path root → ⊥
  never_leads w other stays [] steps = other steps
  never_leads w other stays (b ∷ path) steps =
      never_leads w other stays path
      (subst (λ (u : ℕ). AreSteps arrows u path root) (stays b steps.0 steps.1) steps.2)

  -- so no arrow leads to its own tail
  no_loop : (v : ℕ) → v < g.vertices - 1 → (arrow v).head ≢ (arrow v).tail
  no_loop v below same =
      let vertex = vertex_of_is g.vertices root v root_is below in
      let leads : LeadWithin arrows g.vertices (vertex_of root v) root = tree.leads (vertex_of root v) vertex.vertex in
      never_leads (vertex_of root v) vertex.other
      (λ b has at.
      let mine : b ≡ arrow v = one_arrow b (arrow v) has (has_arrow v below) (at ∙ sym (tail_is v below)) in
      ap (λ (x : Arrow). x.head) mine ∙ same ∙ tail_is v below)
      leads.0 leads.1

  -- an edge with these ends, which differ, stands at the first, and leads to the second
  stands : (e : Edge) (a b : ℕ) → HasEnds e a b → b ≢ a → (touches e a && not (is_loop e) ≡ true) × (other_end e a ≡ b)
  stands e a b (inl (u, v)) apart =
      let not_loop : e.u ≢ e.v = λ same. apart (sym v ∙ sym same ∙ u) in (
        ap (λ (t : Bool). (t || (e.v == a)) && not (is_loop e)) (eq-eqb e.u a u)
            ∙ ap not (ne_eqb e.u e.v not_loop),
        ap (λ (t : Bool). cond t e.v e.u) (eq-eqb e.u a u) ∙ v,
      )
  stands e a b (inr (u, v)) apart =
      let not_loop : e.u ≢ e.v = λ same. apart (sym u ∙ same ∙ v) in
      let away : e.u ≢ a = λ same. apart (sym u ∙ same) in (
        ap (λ (t : Bool). (t || (e.v == a)) && not (is_loop e)) (ne_eqb e.u a away)
            ∙ ap (λ (t : Bool). t && not (is_loop e)) (eq-eqb e.v a v) ∙ ap not (ne_eqb e.u e.v not_loop),
        ap (λ (t : Bool). cond t e.v e.u) (ne_eqb e.u a away) ∙ u,
      )

  -- a place at the vertex of a variable whose arrow is the variable's
  abbrev IsSlot : ℕ → ℕ → Type 0
  IsSlot v x = (x < length (edges_at g (vertex_of root v))) × (slot_arrow g (vertex_of root v) x ≡ arrow v)

  -- there is one
  some_slot : (v : ℕ) → v < g.vertices - 1 → (x : ℕ) × IsSlot v x
  some_slot v below =
      let a : Arrow = arrow v in
      let w : ℕ = vertex_of root v in
      let tail : a.tail ≡ w = tail_is v below in
      let along : IsAlong g a = tree.along v blank (omega (arith, below, size)) in
      let first = along.first in
      let last = along.last in
      let i : ℕ = a.number - 1 in
      let inside : i < length g.edges = omega (arith, first, last) in
      let e : Edge = edge_at g i in
      let ends : HasEnds e w a.head = subst (λ (t : ℕ). HasEnds e t a.head) tail along.ends in
      let both = stands e w a.head ends (λ same. no_loop v below (same ∙ sym tail)) in
      let at : slice_get g.edges i ≡ Some e = slice_get-get_or g.edges i (record { u = 0; v = 0; weight = 0 }) inside in
      let listed : Contains (listed_edges g w) (i, e) =
      has_numbered (λ c. touches c w && not (is_loop c)) g.edges i e at both.0 in
      let place : Contains (edges_at g w) i = contains_map (λ (p : ℕ × Edge). p.0) (listed_edges g w) (i, e) listed in
      let x : ℕ = place.0 in
      let there : slice_index (edges_at g w) x ≡ i = get_or_default (edges_at g w) x 0 i place.1 ∙ place.2 in
      let number : i + 1 ≡ a.number = omega (arith, first) in (
        x,
        (
          place.1,
          ap (λ (k : ℕ). made w (other_end (edge_at g k) w) (k + 1)) there
              ∙ ap (λ (h : ℕ). made w h (i + 1)) both.1
              ∙ ap (λ (n : ℕ). made w a.head n) number ∙ ap (λ (t : ℕ). made t a.head a.number) (sym tail),
        ),
      )
    where
      -- the arrow of these numbers
      made : ℕ → ℕ → ℕ → Arrow
      made t h n = record { tail = t; head = h; number = n }

  -- the slots of the tree
  slots : Chosen (g.vertices - 1) IsSlot
  slots = choose (g.vertices - 1) IsSlot some_slot

  -- by them the arrows are made again
  arrows_again : arrows_to g root slots.numbers ≡ arrows
  arrows_again =
      ext_get_or blank (arrows_to g root slots.numbers) arrows (omega (arith, made, pairs, count, size)) (λ k less.
      let below : k < g.vertices - 1 = omega (arith, less, made, pairs, count) in
      let zero_more : 0 + k ≡ k = omega arith in
      get_or-map pair_arrow (enumerate_from 0 slots.numbers) k (0, 0) blank (omega (arith, less, made))
      ∙ ap pair_arrow (get_or-enumerate_from 0 slots.numbers k (0, 0) (omega (arith, below, count)))
      ∙ ap (λ (j : ℕ). pair_arrow (j, slice_index slots.numbers k)) zero_more
      ∙ (slots.each k below).1)
    where
      pair_arrow : ℕ × ℕ → Arrow
      pair_arrow p = slot_arrow g (vertex_of root p.0) p.1

      made : length (arrows_to g root slots.numbers) ≡ length (enumerate_from 0 slots.numbers)
      made = length-map (enumerate_from 0 slots.numbers) pair_arrow

      pairs : length (enumerate_from 0 slots.numbers) ≡ length slots.numbers
      pairs = length-enumerate_from 0 slots.numbers

      count : length slots.numbers ≡ g.vertices - 1
      count = slots.count

  -- where a slot leads
  abbrev step : ℕ → Option ℕ
  step u = head_of (heads_of_tree g root) u (slice_index slots.numbers u)

  -- it is the variable of the head of its arrow
  step_is : (v : ℕ) → v < g.vertices - 1 → step v ≡ variable_of root (arrow v).head
  step_is v below =
      let w : ℕ = vertex_of root v in
      let x : ℕ = slice_index slots.numbers v in
      let slot : IsSlot v x = slots.each v below in
      ap (λ (row : List (Option ℕ)). get_or row x None)
      (get_or-map-range_with_len (heads_at g root) 0 (g.vertices - 1) v v [] below (omega arith))
      ∙ get_or-map (λ (i : ℕ). variable_of root (other_end (edge_at g i) w)) (edges_at g w) x 0 None slot.0
      ∙ ap (λ (a : Arrow). variable_of root a.head) slot.1

  -- arrows that lead to the root are steps that come to it
  reaches : (path : List Arrow) (v : ℕ) → v < g.vertices - 1 → AreSteps arrows (vertex_of root v) path root
      → ReachesRoot step v
  reaches [] v below steps = absurd ((vertex_of_is g.vertices root v root_is below).other steps)
  reaches (b ∷ path) v below steps =
      let mine : b ≡ arrow v =
      one_arrow b (arrow v) steps.0 (has_arrow v below) (steps.1 ∙ sym (tail_is v below)) in
      let to : step v ≡ variable_of root b.head =
      step_is v below ∙ ap (λ (a : Arrow). variable_of root a.head) (sym mine) in
      elim (cases_Option (variable_of root b.head)) [
        | inl none ↦ (1, to ∙ none)
        | inr (u, some) ↦
            let along : IsAlong g b = All-contains (IsAlong g) arrows b tree.along steps.0 in
            let vertex : IsVertex g.vertices b.head = head_vertex b steps.0 along in
            let less : u < g.vertices - 1 = variable_below g.vertices root b.head u root_is vertex some in
            let same : vertex_of root u ≡ b.head = vertex_back g.vertices root b.head u root_is.first vertex some in
            let rest : ReachesRoot step u =
            reaches path u less (subst (λ (t : ℕ). AreSteps arrows t path root) (sym same) steps.2) in
            (1 + rest.0, follow_more step 1 rest.0 v u (to ∙ some) ∙ rest.1)
      ]
    where
      -- a head is a vertex: an end of an edge
      head_vertex : (b : Arrow) → Contains arrows b → IsAlong g b → IsVertex g.vertices b.head
      head_vertex b has along =
          let first = along.first in
          let last = along.last in
          let edge = is.edges_join (b.number - 1) (record { u = 0; v = 0; weight = 0 }) (omega (arith, first, last)) in
          elim along.ends [
            | inl (u, v) ↦ subst (IsVertex g.vertices) v edge.to
            | inr (u, v) ↦ subst (IsVertex g.vertices) u edge.from
          ]

  -- so the slots lead to the root
  slots_lead : LeadsToRoot g root slots.numbers
  slots_lead = record {
    count = slots.count;
    places = λ v below. let count = slots.count in (slots.each v (omega (arith, below, count))).0;
    reaches = λ v below.
        let count = slots.count in
        let less : v < g.vertices - 1 = omega (arith, below, count) in
        let vertex = vertex_of_is g.vertices root v root_is less in
        let leads : LeadWithin arrows g.vertices (vertex_of root v) root = tree.leads (vertex_of root v) vertex.vertex in
        reaches leads.0 v less leads.1;
  }

-- the law
pub every_spanning_tree : EverySpanningTree
every_spanning_tree g root arrows is root_is tree = (
  (slots g root arrows is root_is tree).numbers,
  slots_lead g root arrows is root_is tree,
  arrows_again g root arrows is root_is tree,
)
