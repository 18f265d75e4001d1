-- The arrows of a tree by the current slots of its variables: one from each vertex except the root, along an edge
-- there, to the head of the variable's current arrow.
use Rattle.std.proofs.Common.{inl, inr, ◌≡◌, ◌≢◌, ℕ, ◌+◌, ◌-◌, ◌<◌, List, [], length, map, get_or, slice_index, Option, None, sym, ap, subst, ◌∙◌, arith, zero-add, All, Contains}
use Rattle.std.specs.List.{enumerate_from}
use Rattle.std.specs.List.Sorted.{IsStrictlyIncreasing}
use Rattle.std.proofs.lemmas.List.{length-map, get_or-map}
use Rattle.std.proofs.lemmas.List.Folds.{flat_map-map}
use Rattle.std.proofs.lemmas.List.FromFn.{length-enumerate_from, get_or-enumerate_from, get_or-map-range_with_len}
use Rattle.pop_model.specs.Stacks.{StackTable, value_at}
use Rattle.pop_model.specs.Popping.{cursor, values_at}
use Rattle.pop_model.specs.Names.{vertex_of}
use Rattle.pop_model.specs.Cycles.{arrow_at}
use Rattle.pop_model.proofs.Following.{cases_Option}
use Rattle.pop_model.proofs.ValuesLemmas.{length-values_at, value-values_at}
use Rattle.graph_read.specs.Graphs.{GraphOf, IsVertex, edge_at}
use Rattle.graph_read.specs.Incidence.{other_end, edges_at}
use Rattle.graph_read.proofs.KnownEdges.{edges_known}
use Rattle.graph_read.proofs.VisitedEdges.{other_end_vertex}
use Rattle.cycle_popping.specs.Trees.{variable_of, heads_at, heads_of_tree}
use Rattle.cycle_popping.proofs.TreeRows.{variable_below, edge_is}
use Rattle.pop_print.specs.Output.{arrow_line, tree_lines}
use Rattle.pop_print.proofs.TreePlaces.{vertex_rises}
use Rattle.printed_samples.specs.Arrows.{Arrow, lines_of, HasEnds, IsAlong}
use Rattle.printed_samples.specs.Trees.{slot_arrow, arrows_to}
use Rattle.printed_samples.specs.TreeLaws.{IsTreeState}
use Rattle.printed_samples.proofs.Vertices.{no_variable, vertex_back, listed_stands, has_ends}

-- the arrow of a variable and its slot
abbrev pair_arrow : GraphOf → ℕ → ℕ × ℕ → Arrow
pair_arrow g root p = slot_arrow g (vertex_of root p.0) p.1

-- the printed lines are those of the arrows
pub tree_printed : (g : GraphOf) (root : ℕ) (slots : List ℕ) → tree_lines g root slots
    ≡ lines_of (arrows_to g root slots)
tree_printed g root slots =
    sym (flat_map-map (λ (a : Arrow). arrow_line a.tail a.head a.number) (pair_arrow g root) (enumerate_from 0 slots))

module _ (g : GraphOf) (root : ℕ) (s : StackTable) (c : List ℕ) (is : IsTreeState g root s c) where
  -- so many variables
  abbrev pub size : ℕ
  size = g.vertices - 1

  -- the current slot of a variable, and its arrow
  abbrev pub slot : ℕ → ℕ
  slot v = value_at s v (cursor c v)

  -- its arrow, and all arrows
  abbrev pub arrow : ℕ → Arrow
  arrow v = slot_arrow g (vertex_of root v) (slot v)

  abbrev pub arrows : List Arrow
  arrows = arrows_to g root (values_at s c)

  -- where the current arrow of a variable leads
  abbrev pub step : ℕ → Option ℕ
  step = arrow_at (heads_of_tree g root) s c

  -- an arrow for each variable, in their order
  pub arrow_count : length arrows ≡ size
  arrow_count =
      let made = length-map (enumerate_from 0 (values_at s c)) (pair_arrow g root) in
      let pairs = length-enumerate_from 0 (values_at s c) in
      let values = length-values_at s c in
      let count = is.count in
      omega arith

  -- each at the place of its variable
  pub arrow_there : (k : ℕ) (d : Arrow) → k < size → get_or arrows k d ≡ arrow k
  arrow_there k d below =
      let pairs = length-enumerate_from 0 (values_at s c) in
      let values = length-values_at s c in
      let count = is.count in
      let within : k < length (values_at s c) = omega arith in
      get_or-map (pair_arrow g root) (enumerate_from 0 (values_at s c)) k (0, 0) d (omega arith)
      ∙ ap (pair_arrow g root) (get_or-enumerate_from 0 (values_at s c) k (0, 0) within)
      ∙ ap (λ j. pair_arrow g root (j, get_or (values_at s c) k 0)) (zero-add k)
      ∙ ap (slot_arrow g (vertex_of root k)) (value-values_at s c k (omega arith))

  -- each stands among them
  pub has_arrow : (v : ℕ) → v < size → Contains arrows (arrow v)
  has_arrow v below = (v, omega (arith, arrow_count), arrow_there v (arrow v) below)

  -- an arrow is that of a variable
  pub arrow_from : (a : Arrow) → Contains arrows a → (v : ℕ) × (v < size) × (arrow v ≡ a)
  arrow_from a (k, within, at) =
      let below : k < size = omega (arith, arrow_count) in
      (k, below, sym (arrow_there k a below) ∙ at)

  -- what holds of the arrow of each variable holds of all
  pub each_arrow : (P : Arrow → Type 0) → ((v : ℕ) → v < size → P (arrow v)) → All P arrows
  each_arrow P each k d within =
      let below : k < size = omega (arith, arrow_count) in subst P (sym (arrow_there k d below)) (each k below)

  -- the tails are the vertices of the variables, which rise
  pub tail_there : (k : ℕ) → k < size → slice_index (map (λ (a : Arrow). a.tail) arrows) k ≡ vertex_of root k
  tail_there k below =
      get_or-map (λ (a : Arrow). a.tail) arrows k (arrow k) 0 (omega (arith, arrow_count))
      ∙ ap (λ (a : Arrow). a.tail) (arrow_there k (arrow k) below)

  -- as many tails
  pub tails_count : length (map (λ (a : Arrow). a.tail) arrows) ≡ size
  tails_count = length-map arrows (λ (a : Arrow). a.tail) ∙ arrow_count

  -- and they rise
  pub tails_rise : IsStrictlyIncreasing (map (λ (a : Arrow). a.tail) arrows)
  tails_rise k within =
      let here = tail_there k (omega (arith, tails_count)) in
      let next = tail_there (k + 1) (omega (arith, tails_count)) in
      omega (arith, here, next, vertex_rises root k (k + 1) (omega arith))

  -- each vertex but the root is that of a variable
  pub variable_at : (w : ℕ) → IsVertex g.vertices w → w ≢ root → (v : ℕ) × (v < size) × (vertex_of root v ≡ w)
  variable_at w vertex other = elim (cases_Option (variable_of root w)) [
    | inl none ↦ absurd (other (no_variable root w none))
    | inr (v, some) ↦ (
      v,
      variable_below g.vertices root w v is.root_is vertex some,
      vertex_back g.vertices root w v is.root_is.first vertex some,
    )
  ]

  -- so each is a tail
  pub has_tail : (w : ℕ) → IsVertex g.vertices w → w ≢ root → Contains (map (λ (a : Arrow). a.tail) arrows) w
  has_tail w vertex other =
      let (v, below, same) = variable_at w vertex other in
      let some : Contains (map (λ (a : Arrow). a.tail) arrows) (vertex_of root v) = (
        v,
        omega (arith, tails_count),
        get_or-map (λ (a : Arrow). a.tail) arrows v (arrow v) (vertex_of root v) (omega (arith, arrow_count))
            ∙ ap (λ (a : Arrow). a.tail) (arrow_there v (arrow v) below),
      ) in
      subst (Contains (map (λ (a : Arrow). a.tail) arrows)) same some

  -- the edge of the slot
  pub slot_known : (v : ℕ) → v < size
      → slice_index (edges_at g (vertex_of root v)) (slot v) < length g.edges
  slot_known v below =
      edges_known g (vertex_of root v) (slot v) 0 (is.slots v (omega arith))

  -- it joins the vertex to the head
  pub ends : (v : ℕ) → v < size
      → HasEnds (edge_at g (slice_index (edges_at g (vertex_of root v)) (slot v)))
      (vertex_of root v) (arrow v).head
  ends v below =
      let i : ℕ = slice_index (edges_at g (vertex_of root v)) (slot v) in
      has_ends (edge_at g i) (vertex_of root v)
      (listed_stands g (vertex_of root v) (slot v) 0 (is.slots v (omega arith)))

  -- the arrow goes along it
  pub goes_along : (v : ℕ) → v < size → IsAlong g (arrow v)
  goes_along v below =
      let i : ℕ = slice_index (edges_at g (vertex_of root v)) (slot v) in
      let same : i ≡ i + 1 - 1 = omega arith in
      record {
        first = omega arith;
        last = omega (arith, slot_known v below);
        ends = subst (λ j. HasEnds (edge_at g j) (vertex_of root v) (arrow v).head) same (ends v below);
      }

  -- the current arrow of a variable is the printed one
  pub step_is : (v : ℕ) → v < size → step v ≡ variable_of root (arrow v).head
  step_is v below =
      let x : ℕ = slot v in
      let w : ℕ = vertex_of root v in
      ap (λ (row : List (Option ℕ)). get_or row x None)
      (get_or-map-range_with_len (heads_at g root) 0 size v v [] below (omega arith))
      ∙ get_or-map (λ i. variable_of root (other_end (edge_at g i) w)) (edges_at g w) x 0 None
      (is.slots v (omega arith))

  -- its head is a vertex
  pub head_is : (v : ℕ) → v < size → IsVertex g.vertices (arrow v).head
  head_is v below =
      let i : ℕ = slice_index (edges_at g (vertex_of root v)) (slot v) in
      other_end_vertex g.vertices (vertex_of root v) (edge_at g i) (edge_is g i is.graph (slot_known v below))
