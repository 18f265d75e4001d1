-- If no cycle occurs, the arrows are a spanning tree. From each vertex they lead to the root in at most as many steps
-- as there are variables: a longer walk would meet a vertex again, and the loop in between would occur. Two arrows on
-- one edge would lead to each other, and never to the root.
use Rattle.std.proofs.Common.{inl, inr, ◌≡◌, ◌≢◌, ◌⊎◌, ℕ, zero, suc, ◌+◌, ◌-◌, ◌<◌, List, [], ◌∷◌, length, slice_index, Option, Some, None, refl, sym, ap, subst, ◌∙◌, arith, Contains}
use Rattle.std.specs.Option.{option_and_then}
use Rattle.std.proofs.lemmas.Bool.{cases_eq}
use Rattle.std.proofs.lemmas.Option.{none-some, same_Some}
use Rattle.std.proofs.lemmas.List.FromFn.{length-map-range_with_len}
use Rattle.pop_model.specs.Stacks.{StackTable, value_at}
use Rattle.pop_model.specs.Popping.{cursor, values_at}
use Rattle.pop_model.specs.Names.{vertex_of}
use Rattle.pop_model.specs.Cycles.{follow, arrow_at}
use Rattle.pop_model.specs.Runs.{IsFinished}
use Rattle.pop_model.proofs.Following.{cases_Option, follow_more}
use Rattle.pop_model.proofs.TreeEnd.{no_long_walk}
use Rattle.graph_read.specs.Graphs.{GraphOf, IsVertex, edge_at}
use Rattle.graph_read.specs.Incidence.{edges_at}
use Rattle.cycle_popping.specs.Trees.{variable_of, heads_at, heads_of_tree}
use Rattle.cycle_popping.proofs.TreeRows.{vertex_of_is, variable_below, tree_arrows}
use Rattle.printed_samples.specs.Arrows.{Arrow, HasEnds, IsAlong}
use Rattle.printed_samples.specs.Trees.{slot_arrow, arrows_to, LeadWithin, IsTreeTo}
use Rattle.printed_samples.specs.TreeLaws.{cycles_over, IsTreeState, PrintedLeads}
use Rattle.printed_samples.proofs.Vertices.{no_variable, vertex_back, variable_back, turned}
use Rattle.printed_samples.proofs.TreeArrows as over

module _ (g : GraphOf) (root : ℕ) (s : StackTable) (c : List ℕ) (is : IsTreeState g root s c)
    (finished : IsFinished (cycles_over s g root) c) where
  -- so many variables
  abbrev size : ℕ
  size = g.vertices - 1

  -- the current slot of a variable, its arrow, all arrows, and where a variable's leads
  abbrev slot : ℕ → ℕ
  slot v = value_at s v (cursor c v)

  abbrev arrow : ℕ → Arrow
  arrow v = slot_arrow g (vertex_of root v) (slot v)

  abbrev arrows : List Arrow
  arrows = arrows_to g root (values_at s c)

  abbrev step : ℕ → Option ℕ
  step = arrow_at (heads_of_tree g root) s c

  -- steps that come to the root are printed arrows that lead there
  leads_on : (k v : ℕ) → v < size → follow step k v ≡ None → LeadWithin arrows k (vertex_of root v) root
  leads_on zero v below none = absurd (none-some v (sym none))
  leads_on (suc k) v below none = elim (cases_Option (step v)) [
    | inl end ↦ (
      arrow v ∷ [],
      (
        over.has_arrow g root s c is v below,
        refl,
        no_variable root (arrow v).head
            (sym (over.step_is g root s c is v below) ∙ end),
      ),
      omega arith,
    )
    | inr (w, next) ↦
        let named : variable_of root (arrow v).head ≡ Some w = sym (over.step_is g root s c is v below) ∙ next in
        let less : w < size = variable_below g.vertices root (arrow v).head w is.root_is
        (over.head_is g root s c is v below) named in
        let same : vertex_of root w ≡ (arrow v).head =
        vertex_back g.vertices root (arrow v).head w is.root_is.first (over.head_is g root s c is v below) named in
        let sum : 1 + k ≡ suc k = omega arith in
        let rest : follow step k w ≡ None =
        sym (follow_more step 1 k v w next) ∙ ap (λ m. follow step m v) sum ∙ none in
        let on : LeadWithin arrows k (arrow v).head root =
        subst (λ u. LeadWithin arrows k u root) same (leads_on k w less rest) in
        (arrow v ∷ on.0, (over.has_arrow g root s c is v below, refl, on.1), omega (arith, on.2))
  ]

  -- there are as many variables as rows of heads
  variables : length (heads_of_tree g root) ≡ size
  variables = length-map-range_with_len (heads_at g root) 0 size

  -- in as many steps as there are variables the root is reached
  comes : (v : ℕ) → v < size → follow step (length (heads_of_tree g root)) v ≡ None
  comes v below = elim (cases_Option (follow step (length (heads_of_tree g root)) v)) [
    | inl none ↦ none
    | inr (w, on) ↦
        absurd (no_long_walk s (heads_of_tree g root) (tree_arrows g root is.graph is.root_is is.joined) c finished v w
        (omega (arith, variables)) on)
  ]

  -- from each vertex the arrows lead to the root
  leads : (w : ℕ) → IsVertex g.vertices w → LeadWithin arrows g.vertices w root
  leads w vertex = elim (cases_eq w root) [
    | inl same ↦ ([], same, omega arith)
    | inr other ↦
        let (v, below, at) = over.variable_at g root s c is w vertex other in
        let on = leads_on (length (heads_of_tree g root)) v below (comes v below) in
        subst (λ u. LeadWithin arrows g.vertices u root) at (on.0, on.1, omega (arith, on.2, variables))
  ]

  -- two variables that lead to each other never come to the root
  in_turn : (u v k : ℕ) → step u ≡ Some v → step v ≡ Some u
      → (follow step k u ≡ Some u) ⊎ (follow step k u ≡ Some v)
  in_turn u v zero to back = inl refl
  in_turn u v (suc k) to back = elim (in_turn u v k to back) [
    | inl at ↦ inr (ap (λ (o : Option ℕ). option_and_then step o) at ∙ to)
    | inr at ↦ inl (ap (λ (o : Option ℕ). option_and_then step o) at ∙ back)
  ]

  -- so no two do
  no_turn : (u v : ℕ) → u < size → step u ≡ Some v → step v ≡ Some u → ⊥
  no_turn u v below to back = elim (in_turn u v (length (heads_of_tree g root)) to back) [
    | inl at ↦ none-some u (sym (comes u below) ∙ at)
    | inr at ↦ none-some v (sym (comes u below) ∙ at)
  ]

  -- no two variables have arrows along one edge
  one_edge : (u v : ℕ) → u < size → v < size → (arrow u).number ≡ (arrow v).number → u ≡ v
  one_edge u v u_below v_below same = elim (cases_eq u v) [
    | inl is_it ↦ is_it
    | inr other ↦
        let i : ℕ = slice_index (edges_at g (vertex_of root u)) (slot u) in
        let j : ℕ = slice_index (edges_at g (vertex_of root v)) (slot v) in
        let edge : j ≡ i = omega arith in
        let apart : vertex_of root u ≢ vertex_of root v =
        λ t. absurd (other (same_Some u v (sym (variable_back root u is.root_is.first) ∙ ap (variable_of root) t
        ∙ variable_back root v is.root_is.first))) in
        let there : HasEnds (edge_at g i) (vertex_of root v) (arrow v).head =
        subst (λ m. HasEnds (edge_at g m) (vertex_of root v) (arrow v).head) edge (over.ends g root s c is v v_below) in
        let (to, back) =
        turned (edge_at g i) (vertex_of root u) (arrow u).head (vertex_of root v) (arrow v).head
        (over.ends g root s c is u u_below) there apart in
        absurd (no_turn u v u_below
        (over.step_is g root s c is u u_below ∙ ap (variable_of root) (sym back)
        ∙ variable_back root v is.root_is.first)
        (over.step_is g root s c is v v_below ∙ ap (variable_of root) (sym to) ∙ variable_back root u is.root_is.first))
  ]

  -- so no two arrows are along one edge
  are_apart : (a b : Arrow) → Contains arrows a → Contains arrows b → a.number ≡ b.number → a ≡ b
  are_apart a b has also same =
      let (u, u_below, u_is) = over.arrow_from g root s c is a has in
      let (v, v_below, v_is) = over.arrow_from g root s c is b also in
      sym u_is
      ∙ ap arrow (one_edge u v u_below v_below
      (ap (λ (d : Arrow). d.number) u_is ∙ same ∙ sym (ap (λ (d : Arrow). d.number) v_is)))
      ∙ v_is

  -- so they are a tree
  tree_is : IsTreeTo g root arrows
  tree_is = record {
    count = let first = is.root_is.first in let last = is.root_is.last in omega (arith, over.arrow_count g root s c is);
    rising = over.tails_rise g root s c is;
    tails = over.each_arrow g root s c is (λ a. IsVertex g.vertices a.tail × (a.tail ≢ root))
        (λ v below. let at = vertex_of_is g.vertices root v is.root_is below in (at.vertex, at.other));
    each = over.has_tail g root s c is;
    along = over.each_arrow g root s c is (IsAlong g) (over.goes_along g root s c is);
    apart = are_apart;
    leads = leads;
  }

-- the law
pub printed_leads : PrintedLeads
printed_leads g root s c is finished = tree_is g root s c is finished
