-- Spanning trees as sets of edges, and arrows to a root: each set has exactly one choice of arrows, and each choice
-- has one set, with the same weight.
use Rattle.std.proofs.Common.{inl, inr, ◌≡◌, ◌≢◌, ◌⊎◌, ℕ, zero, suc, ◌+◌, ◌-◌, ◌*◌, ◌<◌, Bool, true, cond, ◌==◌, ◌||◌, List, [], ◌∷◌, ◌++◌, length, map, get_or, Some, None, slice_index, refl, sym, ap, ap₂, subst, ◌∙◌, arith, Contains, eq-eqb, eqb-true}
use Rattle.std.specs.List.{enumerate_from, filter, list_any, range_with_len}
use Rattle.std.specs.List.Sorted.{IsStrictlyIncreasing}
use Rattle.std.proofs.lemmas.Bool.{cases_Bool}
use Rattle.std.proofs.lemmas.List.{get_or-map}
use Rattle.std.proofs.lemmas.List.Elements.{All-contains, Contains-get_or, filter_passes}
use Rattle.std.proofs.lemmas.List.Folds.{Any-from_list_any, list_any-from_Any}
use Rattle.std.proofs.lemmas.List.FromFn.{get_or-range_with_len, length-range_with_len}
use Rattle.std.proofs.lemmas.List.Kept.{AllPairs-from_increasing, IsStrictlyIncreasing-filter}
use Rattle.std.proofs.lemmas.Option.{none-some}
use Rattle.std.proofs.Math.Nat.{mul_left_comm}
use Rattle.pop_model.specs.Names.{vertex_of}
use Rattle.pop_model.specs.Cycles.{follow}
use Rattle.pop_model.proofs.Following.{cases_Option, follow_more}
use Rattle.pop_model.proofs.Members.{in_range}
use Rattle.pop_model.proofs.Rising.{head_member, member_cases, none_in, tail_member}
use Rattle.pop_samples.specs.Weights.{sample_weight}
use Rattle.pop_samples.proofs.Matching.{Differ, Without, cons_differs, head_differs, tail_differ, without}
use Rattle.key_samples.proofs.Counting.{one_count}
use Rattle.graph_read.specs.declared.edge.Edge.{Edge}
use Rattle.graph_read.specs.Graphs.{GraphOf, IsGraph, IsVertex, edge_at}
use Rattle.graph_read.specs.Incidence.{edges_at, other_end, touches}
use Rattle.graph_read.specs.Paths.{IsJoined, IsPath}
use Rattle.graph_read.proofs.JoinedPaths.{joined_both_ways}
use Rattle.graph_read.proofs.KnownEdges.{edges_known}
use Rattle.graph_read.proofs.Numbering.{contains_filter, contains_map}
use Rattle.graph_read.proofs.VisitedEdges.{other_end_vertex}
use Rattle.cycle_popping.specs.Trees.{variable_of, weights_at}
use Rattle.cycle_popping.proofs.TreeRows.{variable_below}
use Rattle.printed_samples.specs.Arrows.{HasEnds}
use Rattle.printed_samples.proofs.Vertices.{no_variable, vertex_back}
use Rattle.answer_laws.specs.EverySample.{LeadsToRoot}
use Rattle.spanning_samples.specs.SpanningSets.{EachIsTree, HasEdges, IsSpanningSet, OneTreeEach, TreeWeights, chosen_edges, edges_weight, graph_with}
use Rattle.spanning_samples.proofs.Growing.{tree_edge, tree_leads, tree_slots}
use Rattle.spanning_samples.proofs.Slots.{chosen_count, chosen_differ, chosen_from, comes, ends, has_chosen, head, number, place, same_choice, step, step_is}

-- ---- lists with the same members

-- what lies in a list of as many has all of it
all_there : (xs ys : List ℕ) → Differ xs → Differ ys → ((i : ℕ) → Contains xs i → Contains ys i)
    → length xs ≡ length ys → (i : ℕ) → Contains ys i → Contains xs i
all_there [] ys differ differ' sub size i has = absurd (let low = has.1 in omega (arith, low, size))
all_there (x ∷ xs) ys differ differ' sub size i has =
    let out : Without (λ (k : ℕ). k) ys x = without (λ (k : ℕ). k) ys x differ' (sub x (head_member x xs)) in
    let many = out.size in
    let rest : (z : ℕ) → Contains xs z → Contains out.rest z = λ z z_in.
    elim (out.there z (sub z (tail_member x xs z z_in))) [
      | inl same ↦ absurd (head_differs x xs differ z z_in same)
      | inr more ↦ more
    ] in
    elim (out.there i has) [
      | inl same ↦ subst (Contains (x ∷ xs)) same (head_member x xs)
      | inr more ↦ tail_member x xs i
          (all_there xs out.rest (tail_differ x xs differ) out.differ rest (omega (arith, size, many)) i more)
    ]

-- numbers that rise differ
pub rising_differ : (xs : List ℕ) → IsStrictlyIncreasing xs → Differ xs
rising_differ xs rising i j d less within same =
    let up = AllPairs-from_increasing xs rising i j d less within in absurd (omega (arith, up, same))

-- edges without one of them
record WithoutEdge (g : GraphOf) (ys : List ℕ) (s : ℕ) : Type 0 where
  rest : List ℕ
  weight : edges_weight g ys ≡ (edge_at g s).weight * edges_weight g rest
  differ : Differ rest
  apart : (z : ℕ) → Contains rest z → s ≢ z
  there : (z : ℕ) → Contains ys z → (s ≡ z) ⊎ Contains rest z
  back : (z : ℕ) → Contains rest z → Contains ys z

-- they are there for each
without_edge : (g : GraphOf) (ys : List ℕ) (s : ℕ) → Differ ys → Contains ys s → WithoutEdge g ys s
without_edge g [] s differ has = absurd (none_in s has)
without_edge g (y ∷ ys) s differ (zero, within, same) = record {
  rest = ys;
  weight = ap (λ (i : ℕ). (edge_at g i).weight * edges_weight g ys) same;
  differ = tail_differ y ys differ;
  apart = λ z has e. head_differs y ys differ z has (same ∙ e);
  there = λ z has. elim (member_cases y ys z has) [ inl is ↦ inl (sym same ∙ is) | inr behind ↦ inr behind ];
  back = λ z has. tail_member y ys z has;
}
without_edge g (y ∷ ys) s differ (suc k, within, same) =
    let in_tail : Contains ys s = (k, omega (arith, within), same) in
    let old : WithoutEdge g ys s = without_edge g ys s (tail_differ y ys differ) in_tail in
    record {
      rest = y ∷ old.rest;
      weight = ap (λ (n : ℕ). (edge_at g y).weight * n) old.weight
          ∙ mul_left_comm (edge_at g y).weight (edge_at g s).weight (edges_weight g old.rest);
      differ = cons_differs y old.rest (λ z has. head_differs y ys differ z (old.back z has)) old.differ;
      apart = λ z has e. elim (member_cases y old.rest z has) [
        | inl is ↦ head_differs y ys differ s in_tail (is ∙ sym e)
        | inr behind ↦ old.apart z behind e
      ];
      there = λ z has. elim (member_cases y ys z has) [
        | inl is ↦ inr (subst (Contains (y ∷ old.rest)) is (head_member y old.rest))
        | inr behind ↦ elim (old.there z behind) [ inl is ↦ inl is | inr more ↦ inr (tail_member y old.rest z more) ]
      ];
      back = λ z has. elim (member_cases y old.rest z has) [
        | inl is ↦ subst (Contains (y ∷ ys)) is (head_member y ys)
        | inr behind ↦ tail_member y ys z (old.back z behind)
      ];
    }

-- the same edges weigh the same
same_weight : (g : GraphOf) (xs ys : List ℕ) → Differ xs → Differ ys → ((i : ℕ) → Contains xs i → Contains ys i)
    → ((i : ℕ) → Contains ys i → Contains xs i) → edges_weight g xs ≡ edges_weight g ys
same_weight g [] [] differ differ' to fro = refl
same_weight g [] (y ∷ ys) differ differ' to fro = absurd (none_in y (fro y (head_member y ys)))
same_weight g (x ∷ xs) ys differ differ' to fro =
    let out : WithoutEdge g ys x = without_edge g ys x differ' (to x (head_member x xs)) in
    ap (λ (n : ℕ). (edge_at g x).weight * n)
    (same_weight g xs out.rest (tail_differ x xs differ) out.differ
    (λ i has. elim (out.there i (to i (tail_member x xs i has))) [
      | inl same ↦ absurd (head_differs x xs differ i has same)
      | inr more ↦ more
    ])
    (λ i has. elim (member_cases x xs i (fro i (out.back i has))) [
      | inl same ↦ absurd (out.apart i has same)
      | inr behind ↦ behind
    ]))
    ∙ sym out.weight

-- ---- one choice of arrows for each set

module _ (g : GraphOf) (root : ℕ) (numbers : List ℕ) (is : IsGraph g) (root_is : IsVertex g.vertices root)
    (set : IsSpanningSet g numbers) where
  -- the arrows that are grown
  abbrev slots : List ℕ
  slots = tree_slots g root numbers is root_is set

  abbrev leads : LeadsToRoot g root slots
  leads = tree_leads g root numbers is root_is set

  -- they go along edges of the set
  within : (i : ℕ) → Contains (chosen_edges g root slots) i → Contains numbers i
  within i has =
      let from = chosen_from g root root_is slots leads i has in
      subst (Contains numbers) from.2 (tree_edge g root numbers is root_is set from.0 from.1)

  -- so along all of them
  edges_are : HasEdges g root slots numbers
  edges_are i = (
    within i,
    all_there (chosen_edges g root slots) numbers (chosen_differ g root root_is slots leads)
        (rising_differ numbers set.rising) within
        (let few = set.few in let count = chosen_count g root root_is slots leads in omega (arith, few, count)) i,
  )

-- the law
pub one_tree_each : OneTreeEach
one_tree_each g root numbers is root_is set = (
  slots g root numbers is root_is set,
  record {
    leads = leads g root numbers is root_is set;
    edges = edges_are g root numbers is root_is set;
    only = λ y leads' same. same_choice g root root_is (slots g root numbers is root_is set) y
        (leads g root numbers is root_is set) leads'
        (λ i has. (edges_are g root numbers is root_is set i).1 ((same i).0 has));
  },
)

-- ---- a set for each choice of arrows

-- an edge with these ends leads from the one to the other
ends_lead : (e : Edge) (a b : ℕ) → HasEnds e a b → (touches e a ≡ true) × (other_end e a ≡ b)
ends_lead e a b (inl (u, v)) = (
  ap (λ t. t || (e.v == a)) (eq-eqb e.u a u),
  ap (λ t. cond t e.v e.u) (eq-eqb e.u a u) ∙ v,
)
ends_lead e a b (inr (u, v)) = elim (cases_Bool (e.u == a)) [
  | inl same ↦ (
    ap (λ t. t || (e.v == a)) same,
    ap (λ t. cond t e.v e.u) same ∙ v ∙ sym (eqb-true e.u a same) ∙ u,
  )
  | inr other ↦ (
    ap (λ t. t || (e.v == a)) other ∙ eq-eqb e.v a v,
    ap (λ t. cond t e.v e.u) other ∙ u,
  )
]

-- paths one behind another
path_on : (g : GraphOf) (a : ℕ) (path : List Edge) (b : ℕ) (more : List Edge) (c : ℕ) → IsPath g a path b
    → IsPath g b more c → IsPath g a (path ++ more) c
path_on g a [] b more c same rest = subst (λ (v : ℕ). IsPath g v more c) (sym same) rest
path_on g a (e ∷ path) b more c p rest = (p.0, p.1, path_on g (other_end e a) path b more c p.2 rest)

-- numbers up to a bound rise
range_rises : (n : ℕ) → IsStrictlyIncreasing (range_with_len 0 n)
range_rises n k less =
    let size = length-range_with_len 0 n in
    let here = get_or-range_with_len 0 n k 0 (omega (arith, less, size)) in
    let next = get_or-range_with_len 0 n (k + 1) 0 (omega (arith, less, size)) in
    omega (arith, here, next)

-- the edges of arrows, by rising number
abbrev pub set_of : GraphOf → ℕ → List ℕ → List ℕ
set_of g root x = filter (λ i. list_any (λ j. j == i) (chosen_edges g root x)) (range_with_len 0 (length g.edges))

module _ (g : GraphOf) (root : ℕ) (x : List ℕ) (is : IsGraph g) (root_is : IsVertex g.vertices root)
    (leads : LeadsToRoot g root x) where
  -- the edges
  abbrev edges : List ℕ
  edges = chosen_edges g root x

  -- a number is one of them
  abbrev is_edge : ℕ → Bool
  is_edge i = list_any (λ j. j == i) edges

  -- by rising number
  abbrev sorted : List ℕ
  sorted = set_of g root x

  -- each edge is one of the graph
  edge_below : (i : ℕ) → Contains edges i → i < length g.edges
  edge_below i has =
      let from = chosen_from g root root_is x leads i has in
      let low = edges_known g (vertex_of root from.0) (slice_index x from.0) 0
      (place g root root_is x leads from.0 from.1) in
      let same = from.2 in
      omega (arith, low, same)

  -- so both have the same members
  pub in_sorted : (i : ℕ) → Contains edges i → Contains sorted i
  in_sorted i has =
      contains_filter is_edge (range_with_len 0 (length g.edges)) i (in_range (length g.edges) i (edge_below i has))
      (list_any-from_Any (λ (j : ℕ). j == i) edges (has.0, i, has.1, has.2, eq-eqb i i refl))

  pub from_sorted : (i : ℕ) → Contains sorted i → Contains edges i
  from_sorted i has =
      let passes : is_edge i ≡ true =
      All-contains (λ (j : ℕ). is_edge j ≡ true) sorted i (filter_passes is_edge (range_with_len 0 (length g.edges))) has in
      let (k, j, within, at, same) = Any-from_list_any (λ (j : ℕ). j == i) edges passes in
      subst (Contains edges) (eqb-true j i same) (k, within, at)

  -- and rise
  sorted_rise : IsStrictlyIncreasing sorted
  sorted_rise = IsStrictlyIncreasing-filter is_edge (range_with_len 0 (length g.edges)) (range_rises (length g.edges))

  -- so there are as many
  sorted_count : length sorted ≡ g.vertices - 1
  sorted_count =
      one_count (Contains edges) (length sorted) (length edges)
      (record {
        list = sorted;
        all = record {
          differ = rising_differ sorted sorted_rise;
          exact = λ i. (from_sorted i, in_sorted i);
        };
        size = refl;
      })
      (record {
        list = edges;
        all = record { differ = chosen_differ g root root_is x leads; exact = λ i. (λ has. has, λ has. has) };
        size = refl;
      })
      ∙ chosen_count g root root_is x leads

  -- the graph of these edges
  abbrev tree : GraphOf
  tree = graph_with g sorted

  -- each vertex is joined to the root, along the arrows
  joined_by : (k v : ℕ) → v < g.vertices - 1 → follow (step g root x) k v ≡ None → IsJoined tree (vertex_of root v) root
  joined_by zero v below none = absurd (none-some v (sym none))
  joined_by (suc k) v below none =
      let i : ℕ = number g root x v in
      let e : Edge = edge_at g i in
      let lead = ends_lead e (vertex_of root v) (head g root x v) (ends g root root_is x leads v below) in
      let has : Contains tree.edges e =
      contains_map (edge_at g) sorted i (in_sorted i (has_chosen g root root_is x leads v below)) in
      let on : IsJoined tree (head g root x v) root → IsJoined tree (vertex_of root v) root =
      λ rest. (e ∷ rest.0, (has, lead.0, rest.1)) in
      elim (cases_Option (variable_of root (head g root x v))) [
        | inl end ↦
            on ([], no_variable root (head g root x v) end)
        | inr (u, next) ↦
            let to : step g root x v ≡ Some u = step_is g root root_is x leads v below ∙ next in
            let edge = is.edges_join i (record { u = 0; v = 0; weight = 0 })
            (edge_below i (has_chosen g root root_is x leads v below)) in
            let vertex : IsVertex g.vertices (head g root x v) = other_end_vertex g.vertices (vertex_of root v) e edge in
            let less : u < g.vertices - 1 = variable_below g.vertices root (head g root x v) u root_is vertex next in
            let same : vertex_of root u ≡ head g root x v =
            vertex_back g.vertices root (head g root x v) u root_is.first vertex next in
            let sum : 1 + k ≡ suc k = omega arith in
            let rest : IsJoined tree (vertex_of root u) root =
            joined_by k u less
            (sym (follow_more (step g root x) 1 k v u to) ∙ ap (λ m. follow (step g root x) m v) sum ∙ none) in
            on (subst (λ (w : ℕ). IsJoined tree w root) same rest)
      ]

  -- each vertex
  to_root : (w : ℕ) → IsVertex g.vertices w → IsJoined tree w root
  to_root w vertex = elim (cases_Option (variable_of root w)) [
    | inl none ↦ ([], no_variable root w none)
    | inr (v, some) ↦
        let below : v < g.vertices - 1 = variable_below g.vertices root w v root_is vertex some in
        let end = comes g root root_is x leads v below in
        subst (λ (u : ℕ). IsJoined tree u root) (vertex_back g.vertices root w v root_is.first vertex some)
        (joined_by end.0 v below end.1)
  ]

  -- so they are a spanning tree
  pub sorted_spans : IsSpanningSet g sorted
  sorted_spans = record {
    rising = sorted_rise;
    known = λ k d within.
        edge_below _ (from_sorted _ (Contains-get_or sorted k d within));
    few = let first = root_is.first in let last = root_is.last in let size = sorted_count in
        omega (arith, first, last, size);
    joined = λ a b a_is b_is.
        let up = to_root a a_is in
        let down = joined_both_ways tree b root (to_root b b_is) in
        (up.0 ++ down.0, path_on tree a up.0 root down.0 b up.1 down.1);
  }

-- the law
pub each_is_tree : EachIsTree
each_is_tree g root x is root_is leads = (
  sorted g root x is root_is leads,
  sorted_spans g root x is root_is leads,
  λ i. (in_sorted g root x is root_is leads i, from_sorted g root x is root_is leads i),
)

-- ---- weights

-- slots weigh as their edges
slots_weigh : (g : GraphOf) (root a m : ℕ) (x : List ℕ) → length x ≡ m
    → ((v u : ℕ) → v < m → a + v ≡ u → get_or x v 0 < length (edges_at g (vertex_of root u)))
    → sample_weight (map (weights_at g root) (range_with_len a m)) x
    ≡ edges_weight g (map (λ p. slice_index (edges_at g (vertex_of root p.0)) p.1) (enumerate_from a x))
slots_weigh g root a zero [] size places = refl
slots_weigh g root a zero (y ∷ x) size places = absurd (omega (arith, size))
slots_weigh g root a (suc m) [] size places = absurd (omega (arith, size))
slots_weigh g root a (suc m) (y ∷ x) size places =
    ap₂ (λ (i j : ℕ). i * j)
    (get_or-map (λ (i : ℕ). (edge_at g i).weight) (edges_at g (vertex_of root a)) y 0 0
    (places 0 a (omega arith) (omega arith)))
    (slots_weigh g root (a + 1) m x (omega (arith, size))
    (λ v u less same. places (suc v) u (omega (arith, less)) (omega (arith, same))))

-- the law
pub tree_weights : TreeWeights
tree_weights g root numbers x is root_is set leads same =
    slots_weigh g root 0 (g.vertices - 1) x leads.count
    (λ v u less at. subst (λ (n : ℕ). get_or x v 0 < length (edges_at g (vertex_of root n)))
    (let s : v ≡ u = omega (arith, at) in s) (place g root root_is x leads v less))
    ∙ same_weight g (chosen_edges g root x) numbers (chosen_differ g root root_is x leads)
    (rising_differ numbers set.rising) (λ i. (same i).0) (λ i. (same i).1)
