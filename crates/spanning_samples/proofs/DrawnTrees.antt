-- Arrows to the root and spanning trees, as sets of edges, are in one-to-one correspondence, and have equal weights.
-- So what is known about the draws of arrows is known about those of trees.
use Rattle.std.proofs.Common.{inl, inr, ◌≡◌, ℕ, zero, suc, ◌+◌, ◌-◌, ◌*◌, ◌^◌, ◌<◌, ◌≤◌, List, [], ◌∷◌, length, map, get_or, sum, All, refl, sym, ap, ap₂, subst, ◌∙◌, arith, Contains}
use Rattle.std.specs.List.{sum_by}
use Rattle.std.specs.List.Sorted.{IsStrictlyIncreasing}
use Rattle.std.proofs.lemmas.List.{length-map, map-id}
use Rattle.std.proofs.lemmas.List.Sums.{sum_by-cons}
use Rattle.pop_model.specs.Names.{vertex_of}
use Rattle.pop_model.specs.Stacks.Origin.{Given}
use Rattle.pop_model.proofs.CycleFamily.{cycles_extremal}
use Rattle.pop_model.proofs.Rising.{head_member, member_cases, none_in, same_rising, tail_member}
use Rattle.pop_stacks.proofs.DrawsLemmas.{sum-cons}
use Rattle.graph_read.specs.Graphs.{GraphOf, IsGraph, IsVertex, edge_at}
use Rattle.graph_read.specs.Incidence.{edges_at}
use Rattle.graph_read.specs.Paths.{IsConnected}
use Rattle.graph_read.proofs.KnownEdges.{edges_known}
use Rattle.graph_read.proofs.Numbering.{contains_map, contains_map_from}
use Rattle.cycle_popping.specs.Trees.{heads_of_tree, weights_at, weights_of_tree}
use Rattle.cycle_popping.proofs.TreeRows as T
use Rattle.pop_print.specs.declared.facts.Facts.{Facts}
use Rattle.pop_samples.specs.Frames.{Frame, IsFrame, IsSampleOf, Rows}
use Rattle.pop_samples.specs.Exchange.{Samples}
use Rattle.pop_samples.specs.Lists.{AreAll}
use Rattle.pop_samples.specs.Weights.{sample_weight}
use Rattle.pop_samples.proofs.Matching.{Alike, Differ, alike, cons_differs, head_differs, tail_differ}
use Rattle.key_samples.specs.Counts.{Count}
use Rattle.key_samples.specs.Numbers.{HaveWeights, TableOf}
use Rattle.key_samples.proofs.Counting.{same_count}
use Rattle.drawn_samples.specs.Drawn.{AreDrawn, AreSome, IsNearly, TableAmong}
use Rattle.drawn_samples.specs.Where.{SamplesWhere}
use Rattle.drawn_samples.proofs.Drawing.{drawn_samples}
use Rattle.drawn_samples.proofs.WantedRuns.{wanted_runs}
use Rattle.job_subjects.proofs.MadeInstances.{count_of_weights, tree_fits}
use Rattle.answer_laws.specs.EverySample.{LeadsToRoot}
use Rattle.spanning_samples.specs.SpanningSets.{HasEdges, IsOneChoice, IsSpanningSet, edges_weight}
use Rattle.spanning_samples.specs.DrawnTrees.{AreTreesDrawn, DrawnTrees, TableOfTree, WantedTrees, tree_frame}
use Rattle.spanning_samples.proofs.OneTree.{from_sorted, in_sorted, one_tree_each, set_of as edges_of, sorted_spans, tree_weights}
use Rattle.spanning_samples.proofs.Slots.{same_choice}
use Rattle.spanning_samples.proofs.TreesAlone.{trees_alone}

-- a map that tells members apart keeps a list without repetition
map_differ : (h : List ℕ → List ℕ) (xs : List (List ℕ)) → Differ xs
    → ((x y : List ℕ) → Contains xs x → Contains xs y → h x ≡ h y → x ≡ y) → Differ (map h xs)
map_differ h [] differ apart = λ i j d less within. absurd (omega (arith, within))
map_differ h (x ∷ xs) differ apart =
    cons_differs (h x) (map h xs)
    (λ y has same.
    let from : (z : List ℕ) × Contains xs z × (h z ≡ y) = contains_map_from h xs [] y has in
    head_differs x xs differ from.0 from.1
    (apart x from.0 (head_member x xs) (tail_member x xs from.0 from.1) (same ∙ sym from.2)))
    (map_differ h xs (tail_differ x xs differ)
    (λ y z has has' same. apart y z (tail_member x xs y has) (tail_member x xs z has') same))

-- sums of what is the same
sum_of_map : (h : List ℕ → List ℕ) (a b : List ℕ → ℕ) (xs : List (List ℕ))
    → ((x : List ℕ) → Contains xs x → a (h x) ≡ b x) → sum_by a (map h xs) ≡ sum_by b xs
sum_of_map h a b [] same = refl
sum_of_map h a b (x ∷ xs) same =
    sum_by-cons a (h x) (map h xs)
    ∙ ap₂ (λ (m n : ℕ). m + n) (same x (head_member x xs))
    (sum_of_map h a b xs (λ y has. same y (tail_member x xs y has)))
    ∙ sym (sum_by-cons b x xs)

-- two lists of all have one sum
one_sum : (P : List ℕ → Type 0) (weight : List ℕ → ℕ) (xs ys : List (List ℕ)) → AreAll P xs → AreAll P ys
    → sum_by weight xs ≡ sum_by weight ys
one_sum P weight xs ys all all' =
    let same : Alike weight 1 1 xs ys =
    alike (λ (x y : List ℕ). x ≡ y) weight 1 1
    (record {
      weight = λ r s e. ap (λ (k : List ℕ). weight k * 1) e;
      once = λ r s z p q. sym p ∙ q;
      one = λ r q s p o. p ∙ sym o;
    })
    xs ys all.differ all'.differ
    (λ r has. (r, (all'.exact r).1 ((all.exact r).0 has), refl))
    (λ s has. (s, (all.exact s).1 ((all'.exact s).0 has), refl)) in
    let total = same.total in
    omega (arith, total)

-- numbers that rise are told by their members
rising_same : (xs ys : List ℕ) → IsStrictlyIncreasing xs → IsStrictlyIncreasing ys
    → ((i : ℕ) → Contains xs i → Contains ys i) → ((i : ℕ) → Contains ys i → Contains xs i) → xs ≡ ys
rising_same xs ys rise rise' to fro =
    same_rising (λ (n : ℕ). n) xs ys (subst IsStrictlyIncreasing (sym (map-id xs)) rise)
    (subst IsStrictlyIncreasing (sym (map-id ys)) rise') to fro

-- weights that are more than 0 sum to more
some_sum : (xs : List ℕ) → 0 < length xs → ((k : ℕ) → k < length xs → 1 ≤ get_or xs k 0) → 0 < sum xs
some_sum [] some each = absurd (omega (arith, some))
some_sum (x ∷ xs) some each =
    let here = each 0 (omega arith) in
    let all = sum-cons x xs in
    omega (arith, here, all)

module _ (facts : Facts) (g : GraphOf) (root : ℕ) (heights : List ℕ) (is : IsGraph g)
    (root_is : IsVertex g.vertices root) (joined : IsConnected g root) (count : length heights ≡ g.vertices - 1)
    (some : All (λ h. 0 < h) heights) where
  -- the frame
  abbrev f : Frame
  f = tree_frame facts g root heights

  -- it is one
  pub frame : IsFrame f
  frame = record {
    family = T.tree_arrows g root is root_is joined;
    fits = tree_fits (record { origin = Given []; weights = weights_of_tree g root }) g root refl;
    count = count ∙ sym (count_of_weights g root);
    some = some;
  }

  -- the weights at a vertex are more than 0
  pub have : HaveWeights f.weights
  have =
      T.all_rows (λ (ws : List ℕ). 0 < sum ws) (weights_at g root) (g.vertices - 1) (λ v below.
      let edges : List ℕ = edges_at g (vertex_of root v) in
      let long = length-map edges (λ (i : ℕ). (edge_at g i).weight) in
      let slot = T.some_slot g root is root_is joined v below in
      some_sum (weights_at g root v) (omega (arith, long, slot)) (λ k less.
      let inside : k < length edges = omega (arith, less, long) in
      let low = edges_known g (vertex_of root v) k 0 inside in
      let weight = (T.edge_is g (get_or edges k 0) is low).some in
      let at : get_or (weights_at g root v) k 0 ≡ (edge_at g (get_or edges k 0)).weight =
      at_map edges k inside in
      omega (arith, weight, at)))
    where
      at_map : (edges : List ℕ) (k : ℕ) → k < length edges
          → get_or (map (λ (i : ℕ). (edge_at g i).weight) edges) k 0 ≡ (edge_at g (get_or edges k 0)).weight
      at_map [] k less = absurd (omega (arith, less))
      at_map (i ∷ edges) zero less = refl
      at_map (i ∷ edges) (suc k) less = at_map edges k (omega (arith, less))

  -- samples lead to the root
  leads : (x : List ℕ) → IsSampleOf f x → LeadsToRoot g root x
  leads x sample = (trees_alone facts g root heights x is root_is joined).0 sample

  -- and what leads there is a sample
  sample_of : (x : List ℕ) → LeadsToRoot g root x → IsSampleOf f x
  sample_of x lead = (trees_alone facts g root heights x is root_is joined).1 lead

  -- the tree of arrows
  set_of : List ℕ → List ℕ
  set_of x = edges_of g root x

  -- it is one, with their edges
  set_is : (x : List ℕ) → LeadsToRoot g root x → IsSpanningSet g (set_of x) × HasEdges g root x (set_of x)
  unfolding set_of
  set_is x lead = (
    sorted_spans g root x is root_is lead,
    λ i. (in_sorted g root x is root_is lead i, from_sorted g root x is root_is lead i),
  )

  -- all trees are those of all samples
  all_sets : (samples : List (List ℕ)) → AreAll (IsSampleOf f) samples → AreAll (IsSpanningSet g) (map set_of samples)
  all_sets samples all = record {
    differ = map_differ set_of samples all.differ (λ x y has has' same.
        let lead = leads x ((all.exact x).0 has) in
        let lead' = leads y ((all.exact y).0 has') in
        same_choice g root root_is x y lead lead'
        (λ i in_y. ((set_is x lead).1 i).1 (subst (λ (s : List ℕ). Contains s i) (sym same) (((set_is y lead').1 i).0 in_y))));
    exact = λ s. (
      λ has.
          let from : (x : List ℕ) × Contains samples x × (set_of x ≡ s) = contains_map_from set_of samples [] s has in
          subst (IsSpanningSet g) from.2 (set_is from.0 (leads from.0 ((all.exact from.0).0 from.1))).0,
      λ spans.
          let made = one_tree_each g root s is root_is spans in
          let x : List ℕ = made.0 in
          let choice : IsOneChoice g root s x = made.1 in
          let has : Contains samples x = (all.exact x).1 (sample_of x choice.leads) in
          let mine = set_is x choice.leads in
          let same : set_of x ≡ s =
          rising_same (set_of x) s mine.0.rising spans.rising
          (λ i in_mine. (choice.edges i).0 ((mine.1 i).1 in_mine))
          (λ i in_s. (mine.1 i).0 ((choice.edges i).1 in_s)) in
          subst (Contains (map set_of samples)) same (contains_map set_of samples x has),
    );
  }

  -- the weights of all trees are those of all samples
  all_weights : (samples trees : List (List ℕ)) → AreAll (IsSampleOf f) samples → AreAll (IsSpanningSet g) trees
      → sum_by (edges_weight g) trees ≡ sum_by (sample_weight f.weights) samples
  all_weights samples trees all every =
      one_sum (IsSpanningSet g) (edges_weight g) trees (map set_of samples) every (all_sets samples all)
      ∙ sum_of_map set_of (edges_weight g) (sample_weight f.weights) samples (λ x has.
      let lead = leads x ((all.exact x).0 has) in
      let mine = set_is x lead in
      sym (tree_weights g root (set_of x) x is root_is mine.0 lead mine.1))

  module _ (Kind : List ℕ → Rows → Type 0) (drawn : AreDrawn f Kind) where
    -- the tables of a tree are those of its arrows
    of_choice : (numbers x : List ℕ) → IsOneChoice g root numbers x → (n : ℕ) → Count (TableOfTree f Kind g root numbers) n
        → Count (TableOf f (Kind x)) n
    of_choice numbers x choice n counted =
        same_count (TableOfTree f Kind g root numbers) (TableOf f (Kind x)) n counted
        (λ t made.
        let same : x ≡ made.values =
        choice.only made.values (leads made.values (drawn.only made.values t made.table)) made.edges in
        subst (λ (w : List ℕ). TableOf f (Kind w) t) (sym same) made.table)
        (λ t made. record { values = x; table = made; edges = choice.edges })

    -- and back
    to_choice : (numbers x : List ℕ) → IsOneChoice g root numbers x → (n : ℕ) → Count (TableOf f (Kind x)) n
        → Count (TableOfTree f Kind g root numbers) n
    to_choice numbers x choice n counted =
        same_count (TableOf f (Kind x)) (TableOfTree f Kind g root numbers) n counted
        (λ t made. record { values = x; table = made; edges = choice.edges })
        (λ t made.
        let same : x ≡ made.values =
        choice.only made.values (leads made.values (drawn.only made.values t made.table)) made.edges in
        subst (λ (w : List ℕ). TableOf f (Kind w) t) (sym same) made.table)

    -- arrows alone
    alone : (x : List ℕ) → IsSampleOf f x → AreSome f (x ∷ [])
    alone x sample = record {
      differ = λ i j d less within. absurd (omega (arith, less, within));
      samples = only_here;
    }
      where
        only_here : All (IsSampleOf f) (x ∷ [])
        only_here zero d less = sample
        only_here (suc k) d less = absurd (omega (arith, less))

    -- the tables of arrows alone
    among : (x : List ℕ) (n : ℕ) → Count (TableOf f (Kind x)) n → Count (TableAmong f Kind (x ∷ [])) n
    among x n counted =
        same_count (TableOf f (Kind x)) (TableAmong f Kind (x ∷ [])) n counted
        (λ t made. record { values = x; table = made; among = head_member x [] })
        (λ t made. elim (member_cases x [] made.values made.among) [
          | inl same ↦ subst (λ (w : List ℕ). TableOf f (Kind w) t) (sym same) made.table
          | inr none ↦ absurd (none_in made.values none)
        ])

    -- the law of trees
    pub trees_drawn : AreTreesDrawn f Kind g root
    trees_drawn =
        let z : ℕ = drawn.samples.0 in
        let every : Count (IsSampleOf f) z = drawn.samples.1 in
        record {
          trees = (
            length (map set_of every.list),
            record { list = map set_of every.list; all = all_sets every.list every.all; size = refl },
          );
          only = λ w t made.
              let lead = leads w (drawn.only w t made) in
              let mine = set_is w lead in
              (set_of w, mine.0, mine.1);
          counted = λ numbers spans.
              let made = one_tree_each g root numbers is root_is spans in
              let x : List ℕ = made.0 in
              let choice : IsOneChoice g root numbers x = made.1 in
              let counts = drawn.counted (x ∷ []) (alone x (sample_of x choice.leads)) in (
                counts.0,
                to_choice numbers x choice counts.0
                    (same_count (TableAmong f Kind (x ∷ [])) (TableOf f (Kind x)) counts.0 counts.1
                    (λ t from. elim (member_cases x [] from.values from.among) [
                      | inl same ↦ subst (λ (w : List ℕ). TableOf f (Kind w) t) (sym same) from.table
                      | inr none ↦ absurd (none_in from.values none)
                    ])
                    (λ t from. record { values = x; table = from; among = head_member x [] })),
              );
          by_weights = λ divide numbers trees spans all_trees n all counted whole.
              let made = one_tree_each g root numbers is root_is spans in
              let x : List ℕ = made.0 in
              let choice : IsOneChoice g root numbers x = made.1 in
              let e = drawn.each_by_weights divide x every.list (sample_of x choice.leads) every.all n all
              (of_choice numbers x choice n counted) whole in
              ap (λ (k : ℕ). n * k) (all_weights every.list trees every.all all_trees) ∙ e
              ∙ ap (λ (k : ℕ). all * k) (tree_weights g root numbers x is root_is spans choice.leads choice.edges);
          nearly = λ bound up numbers trees spans all_trees n all counted whole.
              let made = one_tree_each g root numbers is root_is spans in
              let x : List ℕ = made.0 in
              let choice : IsOneChoice g root numbers x = made.1 in
              let e = drawn.nearly bound up (x ∷ []) every.list (alone x (sample_of x choice.leads)) every.all n all
              (among x n (of_choice numbers x choice n counted)) whole in
              let one : sum_by (sample_weight f.weights) (x ∷ []) ≡ edges_weight g numbers =
              (let s = sum_by-cons (sample_weight f.weights) x [] in
              let w = tree_weights g root numbers x is root_is spans choice.leads choice.edges in omega (arith, s, w)) in
              subst (λ (k : ℕ). IsNearly ((2 ^ 64 - bound) ^ length f.weights) ((2 ^ 64 + bound) ^ length f.weights) n all
              (edges_weight g numbers) k) (sym (all_weights every.list trees every.all all_trees))
              (subst (λ (k : ℕ). IsNearly ((2 ^ 64 - bound) ^ length f.weights) ((2 ^ 64 + bound) ^ length f.weights) n all
              k (sum_by (sample_weight f.weights) every.list)) one e);
        }

-- the law of the one-thread run
pub drawn_trees : DrawnTrees
drawn_trees facts g root heights is root_is joined count some =
    trees_drawn facts g root heights is root_is joined count some (Samples (tree_frame facts g root heights))
    (drawn_samples (tree_frame facts g root heights) (frame facts g root heights is root_is joined count some)
    (have facts g root heights is root_is joined count some) (cycles_extremal (heads_of_tree g root)))

-- that of runs whose log is wanted
pub wanted_trees : WantedTrees
wanted_trees facts g root heights is root_is joined count some wanted =
    trees_drawn facts g root heights is root_is joined count some (SamplesWhere (tree_frame facts g root heights) wanted)
    (wanted_runs (tree_frame facts g root heights) (frame facts g root heights is root_is joined count some)
    (have facts g root heights is root_is joined count some) (cycles_extremal (heads_of_tree g root)) wanted).drawn
