-- Arrows are grown from the root along a spanning tree, given as a set of edges. Along a path from the root each
-- vertex that is not reached gets an arrow back, along the edge by which the path came. When all vertices are reached,
-- the arrows lead to the root from each, one from each vertex, along edges of the set.
use Rattle.std.proofs.Common.{inl, inr, ◌≡◌, ◌≢◌, ◌⊎◌, ℕ, zero, suc, ◌+◌, ◌-◌, ◌<◌, ◌≤◌, Bool, true, cond, ◌==◌, not, ◌&&◌, ◌||◌, List, [], ◌∷◌, length, get_or, Option, Some, None, slice_index, slice_get, refl, sym, ap, subst, ◌∙◌, arith, Contains, eq-eqb, eqb-true, ne_eqb}
use Rattle.std.proofs.lemmas.Bool.{cases_Bool, cases_eq, or_cases, false≢true}
use Rattle.std.proofs.lemmas.List.{get_or_default, get_or-map}
use Rattle.std.proofs.lemmas.List.Elements.{All-contains}
use Rattle.std.proofs.lemmas.List.FromFn.{get_or-map-range_with_len}
use Rattle.std.proofs.lemmas.Option.{slice_get-get_or}
use Rattle.pop_model.specs.Names.{vertex_of}
use Rattle.pop_model.specs.Cycles.{ReachesRoot, head_of}
use Rattle.pop_model.proofs.Following.{cases_Option, follow_more}
use Rattle.pop_model.proofs.Rising.{head_member, member_cases, none_in, tail_member}
use Rattle.graph_read.specs.declared.edge.Edge.{Edge}
use Rattle.graph_read.specs.Graphs.{GraphOf, IsGraph, IsVertex, edge_at}
use Rattle.graph_read.specs.Incidence.{edges_at, is_loop, listed_edges, other_end, touches}
use Rattle.graph_read.specs.Paths.{IsJoined, IsPath}
use Rattle.graph_read.proofs.Numbering.{contains_map, contains_map_from, has_numbered}
use Rattle.graph_read.proofs.VisitedEdges.{other_end_vertex}
use Rattle.cycle_popping.specs.Trees.{heads_at, heads_of_tree, variable_of}
use Rattle.cycle_popping.proofs.TreeRows.{variable_below, vertex_of_is}
use Rattle.printed_samples.specs.Arrows.{HasEnds}
use Rattle.printed_samples.proofs.Vertices.{vertex_back}
use Rattle.answer_laws.specs.EverySample.{LeadsToRoot}
use Rattle.spanning_samples.specs.SpanningSets.{IsSpanningSet, graph_with}

-- an arrow along an edge, by its number from 0
pub record Link : Type 0 where
  pub tail : ℕ
  pub head : ℕ
  pub edge : ℕ

-- links lead, one behind another, from a vertex to the root
abbrev pub LinkSteps : List Link → ℕ → ℕ → List Link → Type 0
LinkSteps links root w [] = w ≡ root
LinkSteps links root w (l ∷ path) = Contains links l × (l.tail ≡ w) × LinkSteps links root l.head path

-- numbers of which something holds, one for each of m places
record Chosen (m : ℕ) (P : ℕ → ℕ → Type 0) : Type 0 where
  numbers : List ℕ
  count : length numbers ≡ m
  each : (k : ℕ) → k < m → P k (slice_index numbers k)

-- they are there where there is one for each place
choose : (m : ℕ) (P : ℕ → ℕ → Type 0) → ((k : ℕ) → k < m → (x : ℕ) × P k x) → Chosen m P
choose zero P some = record { numbers = []; count = refl; each = λ k less. absurd (omega (arith, less)) }
choose (suc m) P some =
    let rest : Chosen m (λ k. P (suc k)) = choose m (λ k. P (suc k)) (λ k less. some (suc k) (omega (arith, less))) in
    let first : (x : ℕ) × P 0 x = some 0 (omega arith) in
    record {
      numbers = first.0 ∷ rest.numbers;
      count = ap suc rest.count;
      each = both first.0 rest.numbers first.1 rest.each;
    }
  where
    both : (x : ℕ) (numbers : List ℕ) → P 0 x → ((k : ℕ) → k < m → P (suc k) (slice_index numbers k)) → (k : ℕ)
        → k < suc m → P k (slice_index (x ∷ numbers) k)
    both x numbers here there zero less = here
    both x numbers here there (suc k) less = there k (omega (arith, less))

-- an edge that touches a vertex has it and the other end
ends_of : (e : Edge) (a : ℕ) → touches e a ≡ true → HasEnds e (other_end e a) a
ends_of e a touch = elim (cases_Bool (e.u == a)) [
  | inl from ↦ inr (eqb-true e.u a from, sym (ap (λ b. cond b e.v e.u) from))
  | inr other ↦ elim (or_cases (e.u == a) (e.v == a) touch) [
    | inl from ↦ absurd (false≢true (sym other ∙ from))
    | inr to ↦ inl (sym (ap (λ b. cond b e.v e.u) other), eqb-true e.v a to)
  ]
]

-- an edge with these ends, which differ, stands at the first, and leads to the second
stands : (e : Edge) (a b : ℕ) → HasEnds e a b → b ≢ a → (touches e a && not (is_loop e) ≡ true) × (other_end e a ≡ b)
stands e a b (inl (u, v)) apart =
    let not_loop : e.u ≢ e.v = λ same. apart (sym v ∙ sym same ∙ u) in (
      ap (λ (t : Bool). (t || (e.v == a)) && not (is_loop e)) (eq-eqb e.u a u)
          ∙ ap not (ne_eqb e.u e.v not_loop),
      ap (λ (t : Bool). cond t e.v e.u) (eq-eqb e.u a u) ∙ v,
    )
stands e a b (inr (u, v)) apart =
    let not_loop : e.u ≢ e.v = λ same. apart (sym u ∙ same ∙ v) in
    let away : e.u ≢ a = λ same. apart (sym u ∙ same) in (
      ap (λ (t : Bool). (t || (e.v == a)) && not (is_loop e)) (ne_eqb e.u a away)
          ∙ ap (λ (t : Bool). t && not (is_loop e)) (eq-eqb e.v a v) ∙ ap not (ne_eqb e.u e.v not_loop),
      ap (λ (t : Bool). cond t e.v e.u) (ne_eqb e.u a away) ∙ u,
    )

module _ (g : GraphOf) (root : ℕ) (numbers : List ℕ) (is : IsGraph g) (root_is : IsVertex g.vertices root)
    (set : IsSpanningSet g numbers) where
  -- an arrow from a vertex but the root along an edge of the set
  record IsLink (l : Link) : Type 0 where
    vertex : IsVertex g.vertices l.tail
    other : l.tail ≢ root
    in_set : Contains numbers l.edge
    ends : HasEnds (edge_at g l.edge) l.tail l.head
    apart : l.head ≢ l.tail

  -- the root is reached, and each tail
  abbrev Reached : List Link → ℕ → Type 0
  Reached links w = (w ≡ root) ⊎ ((l : Link) × Contains links l × (l.tail ≡ w))

  -- arrows of which no two have one tail, and each of which leads to the root
  record Grown (links : List Link) : Type 0 where
    each : (l : Link) → Contains links l → IsLink l
    one : (a b : Link) → Contains links a → Contains links b → a.tail ≡ b.tail → a ≡ b
    leads : (w : ℕ) → Reached links w → (path : List Link) × LinkSteps links root w path

  -- more arrows, which reach what these reach, and a vertex
  record Reaches (links : List Link) (w : ℕ) : Type 0 where
    more : List Link
    grown : Grown more
    keeps : (v : ℕ) → Reached links v → Reached more v
    reached : Reached more w

  -- it is found whether a vertex is reached
  is_tail : (links : List Link) (w : ℕ)
      → ((l : Link) × Contains links l × (l.tail ≡ w)) ⊎ ((l : Link) → Contains links l → l.tail ≢ w)
  is_tail [] w = inr (λ l has. absurd (none_in l has))
  is_tail (l ∷ links) w = elim (cases_eq l.tail w) [
    | inl here ↦ inl (l, head_member l links, here)
    | inr other ↦ elim (is_tail links w) [
      | inl (m, has, at) ↦ inl (m, tail_member l links m has, at)
      | inr none ↦ inr (λ m has at. elim (member_cases l links m has) [
        | inl same ↦ other (ap (λ (k : Link). k.tail) same ∙ at)
        | inr behind ↦ none m behind at
      ])
    ]
  ]

  -- steps are steps among more links
  steps_more : (k : Link) (links path : List Link) (w : ℕ) → LinkSteps links root w path → LinkSteps (k ∷ links) root w path
  steps_more k links [] w steps = steps
  steps_more k links (l ∷ path) w steps =
      (tail_member k links l steps.0, steps.1, steps_more k links path l.head steps.2)

  -- what is reached stays reached
  reached_more : (k : Link) (links : List Link) (w : ℕ) → Reached links w → Reached (k ∷ links) w
  reached_more k links w (inl same) = inl same
  reached_more k links w (inr (l, has, at)) = inr (l, tail_member k links l has, at)

  -- a vertex that isn't reached gets an arrow to one that is
  grow : (links : List Link) → Grown links → (k : Link) → IsLink k → ((l : Link) → Contains links l → l.tail ≢ k.tail)
      → Reached links k.head → Grown (k ∷ links)
  grow links grown k link fresh to = record {
    each = λ l has. elim (member_cases k links l has) [
      | inl same ↦ subst IsLink same link
      | inr behind ↦ grown.each l behind
    ];
    one = λ a b has has' same. elim (member_cases k links a has) [
      | inl first ↦ elim (member_cases k links b has') [
        | inl second ↦ sym first ∙ second
        | inr behind ↦ absurd (fresh b behind (sym same ∙ sym (ap (λ (l : Link). l.tail) first)))
      ]
      | inr before ↦ elim (member_cases k links b has') [
        | inl second ↦ absurd (fresh a before (same ∙ sym (ap (λ (l : Link). l.tail) second)))
        | inr behind ↦ grown.one a b before behind same
      ]
    ];
    leads = λ w reached. lead w reached;
  }
    where
      lead : (w : ℕ) → Reached (k ∷ links) w → (path : List Link) × LinkSteps (k ∷ links) root w path
      lead w (inl same) = ([], same)
      lead w (inr (l, has, at)) = elim (member_cases k links l has) [
        | inl same ↦
            let on = grown.leads k.head to in
            (k ∷ on.0, (head_member k links, ap (λ (m : Link). m.tail) same ∙ at, steps_more k links on.0 k.head on.1))
        | inr behind ↦
            let on = grown.leads w (inr (l, behind, at)) in
            (on.0, steps_more k links on.0 w on.1)
      ]

  -- along an edge of the set from a vertex that is reached
  along_edge : (links : List Link) → Grown links → (a : ℕ) → Reached links a → (e : Edge)
      → Contains (graph_with g numbers).edges e → touches e a ≡ true → Reaches links (other_end e a)
  along_edge links grown a reached e has touch =
      let b : ℕ = other_end e a in
      let found : (i : ℕ) × Contains numbers i × (edge_at g i ≡ e) = contains_map_from (edge_at g) numbers 0 e has in
      let i : ℕ = found.0 in
      elim (cases_eq b root) [
        | inl same ↦ record { more = links; grown = grown; keeps = λ v r. r; reached = inl same }
        | inr other ↦ elim (is_tail links b) [
          | inl there ↦ record { more = links; grown = grown; keeps = λ v r. r; reached = inr there }
          | inr fresh ↦
              let low : i < length g.edges = All-contains (λ (j : ℕ). j < length g.edges) numbers i set.known found.1 in
              let edge = subst (λ (d : Edge). IsVertex g.vertices (other_end d a)) found.2
              (other_end_vertex g.vertices a (edge_at g i) (is.edges_join i (record { u = 0; v = 0; weight = 0 }) low)) in
              let ends : HasEnds (edge_at g i) b a =
              subst (λ (d : Edge). HasEnds d b a) (sym found.2) (ends_of e a touch) in
              let k : Link = record { tail = b; head = a; edge = i } in
              let apart : a ≢ b = λ same. unreached links b other fresh (subst (Reached links) same reached) in
              record {
                more = k ∷ links;
                grown = grow links grown k (record {
                  vertex = edge;
                  other = other;
                  in_set = found.1;
                  ends = ends;
                  apart = apart;
                }) fresh reached;
                keeps = λ v r. reached_more k links v r;
                reached = inr (k, head_member k links, refl);
              }
        ]
      ]
    where
      -- what is no tail and not the root isn't reached
      unreached : (some : List Link) (w : ℕ) → w ≢ root → ((l : Link) → Contains some l → l.tail ≢ w) → Reached some w → ⊥
      unreached some w away none (inl same) = away same
      unreached some w away none (inr (l, within, at)) = none l within at

  -- along a path
  along_path : (path : List Edge) (links : List Link) → Grown links → (a b : ℕ) → Reached links a
      → IsPath (graph_with g numbers) a path b → Reaches links b
  along_path [] links grown a b reached same =
      record { more = links; grown = grown; keeps = λ v r. r; reached = subst (Reached links) same reached }
  along_path (e ∷ path) links grown a b reached p =
      let first : Reaches links (other_end e a) = along_edge links grown a reached e p.0 p.1 in
      let rest : Reaches first.more b = along_path path first.more first.grown (other_end e a) b first.reached p.2 in
      record {
        more = rest.more;
        grown = rest.grown;
        keeps = λ v r. rest.keeps v (first.keeps v r);
        reached = rest.reached;
      }

  -- arrows that reach the first so many vertices
  record ReachesAll (n : ℕ) : Type 0 where
    links : List Link
    grown : Grown links
    all : (w : ℕ) → 1 ≤ w → w ≤ n → Reached links w

  -- they reach all
  reach_all : (n : ℕ) → n ≤ g.vertices → ReachesAll n
  reach_all zero le = record {
    links = [];
    grown = record {
      each = λ l has. absurd (none_in l has);
      one = λ a b has. absurd (none_in a has);
      leads = λ w reached. ([], only_root w reached);
    };
    all = λ w low high. absurd (omega (arith, low, high));
  }
    where
      only_root : (w : ℕ) → Reached [] w → w ≡ root
      only_root w (inl same) = same
      only_root w (inr (l, has, at)) = absurd (none_in l has)
  reach_all (suc n) le =
      let old : ReachesAll n = reach_all n (omega (arith, le)) in
      let vertex : IsVertex g.vertices (suc n) = record { first = omega arith; last = le } in
      let path : IsJoined (graph_with g numbers) root (suc n) = set.joined root (suc n) root_is vertex in
      let on : Reaches old.links (suc n) =
      along_path path.0 old.links old.grown root (suc n) (inl refl) path.1 in
      record {
        links = on.more;
        grown = on.grown;
        all = λ w low high. elim (cases_eq w (suc n)) [
          | inl here ↦ subst (Reached on.more) (sym here) on.reached
          | inr other ↦ on.keeps w (old.all w low (omega (arith, high, other)))
        ];
      }

  -- all vertices
  whole : ReachesAll g.vertices
  whole = reach_all g.vertices (omega arith)

  -- a place at the vertex of a variable, for the edge of a link from there
  abbrev IsSlot : ℕ → ℕ → Type 0
  IsSlot v x =
      (link : Link) × Contains whole.links link × (link.tail ≡ vertex_of root v)
      × (x < length (edges_at g (vertex_of root v))) × (slice_index (edges_at g (vertex_of root v)) x ≡ link.edge)

  -- there is one for each variable
  some_slot : (v : ℕ) → v < g.vertices - 1 → (x : ℕ) × IsSlot v x
  some_slot v below =
      let at = vertex_of_is g.vertices root v root_is below in
      let w : ℕ = vertex_of root v in
      let vertex = at.vertex in
      found w at.other (whole.all w vertex.first vertex.last)
    where
      found : (w : ℕ) → w ≢ root → Reached whole.links w
          → (x : ℕ) × ((link : Link) × Contains whole.links link × (link.tail ≡ w) × (x < length (edges_at g w))
          × (slice_index (edges_at g w) x ≡ link.edge))
      found w other (inl same) = absurd (other same)
      found w other (inr (l, has, tail)) =
          let link : IsLink l = whole.grown.each l has in
          let e : Edge = edge_at g l.edge in
          let ends : HasEnds e w l.head = subst (λ (t : ℕ). HasEnds e t l.head) tail link.ends in
          let both = stands e w l.head ends (λ same. link.apart (same ∙ sym tail)) in
          let low : l.edge < length g.edges =
          All-contains (λ (j : ℕ). j < length g.edges) numbers l.edge set.known link.in_set in
          let at : slice_get g.edges l.edge ≡ Some e =
          slice_get-get_or g.edges l.edge (record { u = 0; v = 0; weight = 0 }) low in
          let listed : Contains (listed_edges g w) (l.edge, e) =
          has_numbered (λ c. touches c w && not (is_loop c)) g.edges l.edge e at both.0 in
          let place : Contains (edges_at g w) l.edge =
          contains_map (λ (p : ℕ × Edge). p.0) (listed_edges g w) (l.edge, e) listed in
          let x : ℕ = place.0 in
          (x, (l, has, tail, place.1, get_or_default (edges_at g w) x 0 l.edge place.1 ∙ place.2))

  -- one for each
  slots : Chosen (g.vertices - 1) IsSlot
  slots = choose (g.vertices - 1) IsSlot some_slot

  -- they are the arrows of the tree
  pub tree_slots : List ℕ
  tree_slots = slots.numbers

  -- where a link leads
  link_head : (v : ℕ) → (l : Link) → Contains whole.links l → l.tail ≡ vertex_of root v
      → other_end (edge_at g l.edge) (vertex_of root v) ≡ l.head
  link_head v l has tail =
      let link : IsLink l = whole.grown.each l has in
      let ends : HasEnds (edge_at g l.edge) (vertex_of root v) l.head =
      subst (λ (t : ℕ). HasEnds (edge_at g l.edge) t l.head) tail link.ends in
      (stands (edge_at g l.edge) (vertex_of root v) l.head ends (λ same. link.apart (same ∙ sym tail))).1

  -- where a slot leads
  abbrev leads_from : ℕ → Option ℕ
  leads_from u = head_of (heads_of_tree g root) u (slice_index slots.numbers u)

  -- it is the variable of the head of its link
  step_is : (v : ℕ) → v < g.vertices - 1 → (b : Link) → Contains whole.links b → b.tail ≡ vertex_of root v
      → leads_from v ≡ variable_of root b.head
  step_is v below b has tail =
      let w : ℕ = vertex_of root v in
      let x : ℕ = slice_index slots.numbers v in
      let slot : IsSlot v x = slots.each v below in
      let mine : b ≡ slot.0 = whole.grown.one b slot.0 has slot.1 (tail ∙ sym slot.2) in
      ap (λ (row : List (Option ℕ)). get_or row x None)
      (get_or-map-range_with_len (heads_at g root) 0 (g.vertices - 1) v v [] below (omega arith))
      ∙ get_or-map (λ (i : ℕ). variable_of root (other_end (edge_at g i) w)) (edges_at g w) x 0 None slot.3
      ∙ ap (λ (i : ℕ). variable_of root (other_end (edge_at g i) w)) slot.4
      ∙ ap (variable_of root) (link_head v slot.0 slot.1 slot.2)
      ∙ ap (λ (l : Link). variable_of root l.head) (sym mine)

  -- a head is a vertex: an end of an edge
  head_vertex : (b : Link) → Contains whole.links b → IsVertex g.vertices b.head
  head_vertex b has =
      let link : IsLink b = whole.grown.each b has in
      let low : b.edge < length g.edges =
      All-contains (λ (j : ℕ). j < length g.edges) numbers b.edge set.known link.in_set in
      let edge = is.edges_join b.edge (record { u = 0; v = 0; weight = 0 }) low in
      elim link.ends [
        | inl (u, v) ↦ subst (IsVertex g.vertices) v edge.to
        | inr (u, v) ↦ subst (IsVertex g.vertices) u edge.from
      ]

  -- links that lead to the root are steps that come to it
  comes_by : (path : List Link) (v : ℕ) → v < g.vertices - 1 → LinkSteps whole.links root (vertex_of root v) path
      → ReachesRoot leads_from v
  comes_by [] v below steps = absurd ((vertex_of_is g.vertices root v root_is below).other steps)
  comes_by (b ∷ path) v below steps =
      let to : leads_from v ≡ variable_of root b.head = step_is v below b steps.0 steps.1 in
      elim (cases_Option (variable_of root b.head)) [
        | inl none ↦ (1, to ∙ none)
        | inr (u, some) ↦
            let vertex : IsVertex g.vertices b.head = head_vertex b steps.0 in
            let less : u < g.vertices - 1 = variable_below g.vertices root b.head u root_is vertex some in
            let same : vertex_of root u ≡ b.head = vertex_back g.vertices root b.head u root_is.first vertex some in
            let rest : ReachesRoot leads_from u =
            comes_by path u less (subst (λ (t : ℕ). LinkSteps whole.links root t path) (sym same) steps.2) in
            (1 + rest.0, follow_more leads_from 1 rest.0 v u (to ∙ some) ∙ rest.1)
      ]

  -- so they lead to the root
  pub tree_leads : LeadsToRoot g root tree_slots
  unfolding tree_slots
  tree_leads = record {
    count = slots.count;
    places = λ v below. let count = slots.count in (slots.each v (omega (arith, below, count))).3;
    reaches = λ v below.
        let count = slots.count in
        let less : v < g.vertices - 1 = omega (arith, below, count) in
        let at = vertex_of_is g.vertices root v root_is less in
        let vertex = at.vertex in
        let lead = whole.grown.leads (vertex_of root v) (whole.all (vertex_of root v) vertex.first vertex.last) in
        comes_by lead.0 v less lead.1;
  }

  -- along edges of the set
  pub tree_edge : (v : ℕ) → v < g.vertices - 1
      → Contains numbers (slice_index (edges_at g (vertex_of root v)) (slice_index tree_slots v))
  unfolding tree_slots
  tree_edge v below =
      let slot : IsSlot v (slice_index slots.numbers v) = slots.each v below in
      subst (Contains numbers) (sym slot.4) (whole.grown.each slot.0 slot.1).in_set
