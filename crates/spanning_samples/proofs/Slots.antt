-- The edges of arrows that lead to the root. No two arrows go along one edge, since they would lead to each other
-- forever. So arrows along the same edges are the same. If two choices differed at a vertex, they would also differ at
-- the vertex to which the first leads, and so on, and would never reach the root.
use Rattle.std.proofs.Common.{inl, inr, ◌≡◌, ◌≢◌, ◌⊎◌, ℕ, zero, suc, ◌+◌, ◌-◌, ◌<◌, List, [], length, get_or, AllPairs, Option, Some, None, slice_index, refl, sym, ap, subst, ◌∙◌, arith, Contains, ext_get_or, not, ◌&&◌}
use Rattle.std.specs.Option.{option_and_then}
use Rattle.std.specs.List.{enumerate_from}
use Rattle.std.proofs.lemmas.Bool.{cases_eq}
use Rattle.std.proofs.lemmas.List.{length-map, get_or-map}
use Rattle.std.proofs.lemmas.List.FromFn.{length-enumerate_from, get_or-enumerate_from, get_or-map-range_with_len}
use Rattle.std.proofs.lemmas.Option.{none-some, same_Some}
use Rattle.pop_model.specs.Names.{vertex_of}
use Rattle.pop_model.specs.Cycles.{ReachesRoot, follow, head_of}
use Rattle.pop_model.proofs.Following.{follow_more}
use Rattle.graph_read.specs.declared.edge.Edge.{Edge}
use Rattle.graph_read.specs.Graphs.{GraphOf, IsVertex, edge_at}
use Rattle.graph_read.specs.Incidence.{edges_at, is_loop, listed_edges, other_end, touches}
use Rattle.graph_read.proofs.Numbering.{numbered_rise}
use Rattle.cycle_popping.specs.Trees.{heads_at, heads_of_tree, variable_of}
use Rattle.printed_samples.specs.Arrows.{HasEnds}
use Rattle.printed_samples.proofs.Vertices.{has_ends, listed_stands, turned, variable_back}
use Rattle.answer_laws.specs.EverySample.{LeadsToRoot}
use Rattle.answer_laws.proofs.PrintedApart.{same_place}
use Rattle.spanning_samples.specs.SpanningSets.{chosen_edges}

-- the numbers of the edges at a vertex rise
edges_rise : (g : GraphOf) (w : ℕ) → AllPairs (λ x y. x < y) (edges_at g w)
edges_rise g w a b c less within =
    let d : ℕ × Edge = (0, record { u = 0; v = 0; weight = 0 }) in
    let size = length-map (listed_edges g w) (λ (p : ℕ × Edge). p.0) in
    let up = numbered_rise (λ e. touches e w && not (is_loop e)) g.edges a b d less (omega (arith, within, size)) in
    let at_a = get_or-map (λ (p : ℕ × Edge). p.0) (listed_edges g w) a d c (omega (arith, less, within, size)) in
    let at_b = get_or-map (λ (p : ℕ × Edge). p.0) (listed_edges g w) b d c (omega (arith, within, size)) in
    omega (arith, up, at_a, at_b)

-- the edge of a variable's slot
abbrev pub number : GraphOf → ℕ → List ℕ → ℕ → ℕ
number g root x v = slice_index (edges_at g (vertex_of root v)) (slice_index x v)

-- where it leads
abbrev pub head : GraphOf → ℕ → List ℕ → ℕ → ℕ
head g root x v = other_end (edge_at g (number g root x v)) (vertex_of root v)

-- and to which variable
abbrev pub step : GraphOf → ℕ → List ℕ → ℕ → Option ℕ
step g root x v = head_of (heads_of_tree g root) v (slice_index x v)

module _ (g : GraphOf) (root : ℕ) (root_is : IsVertex g.vertices root) (x : List ℕ) (leads : LeadsToRoot g root x) where
  -- the slot is a place at the vertex
  pub place : (v : ℕ) → v < g.vertices - 1 → slice_index x v < length (edges_at g (vertex_of root v))
  place v below = let count = leads.count in leads.places v (omega (arith, below, count))

  -- the variable is that of the head
  pub step_is : (v : ℕ) → v < g.vertices - 1 → step g root x v ≡ variable_of root (head g root x v)
  step_is v below =
      let w : ℕ = vertex_of root v in
      ap (λ (row : List (Option ℕ)). get_or row (slice_index x v) None)
      (get_or-map-range_with_len (heads_at g root) 0 (g.vertices - 1) v v [] below (omega arith))
      ∙ get_or-map (λ (i : ℕ). variable_of root (other_end (edge_at g i) w)) (edges_at g w) (slice_index x v) 0 None
      (place v below)

  -- the edge joins the vertex to the head
  pub ends : (v : ℕ) → v < g.vertices - 1
      → HasEnds (edge_at g (number g root x v)) (vertex_of root v) (head g root x v)
  ends v below =
      has_ends (edge_at g (number g root x v)) (vertex_of root v)
      (listed_stands g (vertex_of root v) (slice_index x v) 0 (place v below))

  -- the root is reached
  pub comes : (v : ℕ) → v < g.vertices - 1 → ReachesRoot (step g root x) v
  comes v below = let count = leads.count in leads.reaches v (omega (arith, below, count))

  -- two variables that lead to each other never come to the root
  in_turn : (u v k : ℕ) → step g root x u ≡ Some v → step g root x v ≡ Some u
      → (follow (step g root x) k u ≡ Some u) ⊎ (follow (step g root x) k u ≡ Some v)
  in_turn u v zero to back = inl refl
  in_turn u v (suc k) to back = elim (in_turn u v k to back) [
    | inl at ↦ inr (ap (λ (o : Option ℕ). option_and_then (step g root x) o) at ∙ to)
    | inr at ↦ inl (ap (λ (o : Option ℕ). option_and_then (step g root x) o) at ∙ back)
  ]

  -- so no two do
  no_turn : (u v : ℕ) → u < g.vertices - 1 → step g root x u ≡ Some v → step g root x v ≡ Some u → ⊥
  no_turn u v below to back =
      let end = comes u below in
      elim (in_turn u v end.0 to back) [
        | inl at ↦ none-some u (sym end.1 ∙ at)
        | inr at ↦ none-some v (sym end.1 ∙ at)
      ]

  -- vertices of different variables differ
  pub vertices_apart : (u v : ℕ) → u ≢ v → vertex_of root u ≢ vertex_of root v
  vertices_apart u v other same =
      other (same_Some u v (sym (variable_back root u root_is.first) ∙ ap (variable_of root) same
      ∙ variable_back root v root_is.first))

  -- no two variables have one edge
  pub one_edge : (u v : ℕ) → u < g.vertices - 1 → v < g.vertices - 1 → number g root x u ≡ number g root x v → u ≡ v
  one_edge u v u_below v_below same = elim (cases_eq u v) [
    | inl is_it ↦ is_it
    | inr other ↦
        let there : HasEnds (edge_at g (number g root x u)) (vertex_of root v) (head g root x v) =
        subst (λ m. HasEnds (edge_at g m) (vertex_of root v) (head g root x v)) (sym same) (ends v v_below) in
        let (to, back) =
        turned (edge_at g (number g root x u)) (vertex_of root u) (head g root x u) (vertex_of root v)
        (head g root x v) (ends u u_below) there (vertices_apart u v other) in
        absurd (no_turn u v u_below
        (step_is u u_below ∙ ap (variable_of root) (sym back) ∙ variable_back root v root_is.first)
        (step_is v v_below ∙ ap (variable_of root) (sym to) ∙ variable_back root u root_is.first))
  ]

  -- there are as many edges as variables
  pub chosen_count : length (chosen_edges g root x) ≡ g.vertices - 1
  chosen_count =
      length-map (enumerate_from 0 x) (λ (p : ℕ × ℕ). slice_index (edges_at g (vertex_of root p.0)) p.1)
      ∙ length-enumerate_from 0 x ∙ leads.count

  -- that of a variable stands at its place
  pub chosen_at : (v d : ℕ) → v < g.vertices - 1 → get_or (chosen_edges g root x) v d ≡ number g root x v
  chosen_at v d below =
      let pick : ℕ × ℕ → ℕ = λ p. slice_index (edges_at g (vertex_of root p.0)) p.1 in
      let pairs = length-enumerate_from 0 x in
      let count = leads.count in
      let same : 0 + v ≡ v = omega arith in
      get_or-map pick (enumerate_from 0 x) v (0, 0) d (omega (arith, below, pairs, count))
      ∙ ap pick (get_or-enumerate_from 0 x v (0, 0) (omega (arith, below, count)))
      ∙ ap (λ (j : ℕ). pick (j, get_or x v 0)) same

  -- it is one of them
  pub has_chosen : (v : ℕ) → v < g.vertices - 1 → Contains (chosen_edges g root x) (number g root x v)
  has_chosen v below = let size = chosen_count in (v, omega (arith, below, size), chosen_at v (number g root x v) below)

  -- and each is that of a variable
  pub chosen_from : (i : ℕ) → Contains (chosen_edges g root x) i
      → (v : ℕ) × (v < g.vertices - 1) × (number g root x v ≡ i)
  chosen_from i (k, within, at) =
      let size = chosen_count in
      let below : k < g.vertices - 1 = omega (arith, within, size) in
      (k, below, sym (chosen_at k i below) ∙ at)

  -- they differ
  pub chosen_differ : AllPairs (λ i j. i ≢ j) (chosen_edges g root x)
  chosen_differ a b d less within same =
      let size = chosen_count in
      let low : a < g.vertices - 1 = omega (arith, less, within, size) in
      let high : b < g.vertices - 1 = omega (arith, within, size) in
      let is = one_edge a b low high (sym (chosen_at a d low) ∙ same ∙ chosen_at b d high) in
      absurd (omega (arith, is, less))

module _ (g : GraphOf) (root : ℕ) (root_is : IsVertex g.vertices root) (x y : List ℕ) (leads : LeadsToRoot g root x)
    (leads' : LeadsToRoot g root y)
    (same : (i : ℕ) → Contains (chosen_edges g root y) i → Contains (chosen_edges g root x) i) where
  -- where the two differ, they differ where the second leads
  differ_on : (v : ℕ) → v < g.vertices - 1 → number g root x v ≢ number g root y v
      → (u : ℕ) × (u < g.vertices - 1) × (step g root y v ≡ Some u) × (number g root x u ≢ number g root y u)
  differ_on v below differ =
      let from = chosen_from g root root_is x leads (number g root y v)
      (same (number g root y v) (has_chosen g root root_is y leads' v below)) in
      let u : ℕ = from.0 in
      let other : u ≢ v = λ is. differ (ap (number g root x) (sym is) ∙ from.2) in
      let there : HasEnds (edge_at g (number g root y v)) (vertex_of root u) (head g root x u) =
      subst (λ m. HasEnds (edge_at g m) (vertex_of root u) (head g root x u)) from.2
      (ends g root root_is x leads u from.1) in
      let (to, back) =
      turned (edge_at g (number g root y v)) (vertex_of root v) (head g root y v) (vertex_of root u) (head g root x u)
      (ends g root root_is y leads' v below) there
      (vertices_apart g root root_is x leads v u (λ is. other (sym is))) in (
        u,
        from.1,
        step_is g root root_is y leads' v below ∙ ap (variable_of root) (sym back) ∙ variable_back root u root_is.first,
        λ equal. other (one_edge g root root_is y leads' u v from.1 below (sym equal ∙ from.2)),
      )

  -- so they never come to the root
  never : (k v : ℕ) → v < g.vertices - 1 → number g root x v ≢ number g root y v → follow (step g root y) k v ≡ None → ⊥
  never zero v below differ none = none-some v (sym none)
  never (suc k) v below differ none =
      let on = differ_on v below differ in
      let sum : 1 + k ≡ suc k = omega arith in
      never k on.0 on.1 on.3
      (sym (follow_more (step g root y) 1 k v on.0 on.2) ∙ ap (λ m. follow (step g root y) m v) sum ∙ none)

  -- so they don't differ
  same_numbers : (v : ℕ) → v < g.vertices - 1 → number g root x v ≡ number g root y v
  same_numbers v below = elim (cases_eq (number g root x v) (number g root y v)) [
    | inl is ↦ is
    | inr differ ↦
        let end = comes g root root_is y leads' v below in
        absurd (never end.0 v below differ end.1)
  ]

  -- arrows along the same edges are the same
  pub same_choice : x ≡ y
  same_choice =
      let a = leads.count in
      let b = leads'.count in
      ext_get_or 0 x y (omega (arith, a, b)) (λ v less.
      let below : v < g.vertices - 1 = omega (arith, less, a) in
      same_place (edges_at g (vertex_of root v)) (edges_rise g (vertex_of root v)) (get_or x v 0) (get_or y v 0)
      (place g root root_is x leads v below) (place g root root_is y leads' v below) (same_numbers v below))
