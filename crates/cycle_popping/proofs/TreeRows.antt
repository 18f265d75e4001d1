-- The rows of a tree's arrows and weights: each variable is a vertex but the root, the edges at a vertex are edges of the
-- graph, and their other ends are vertices.
use Rattle.std.proofs.Common.{inl, inr, ◌≡◌, ◌≢◌, ℕ, ◌+◌, ◌-◌, ◌<◌, ◌≤◌, ◌^◌, cond, ltb, ◌==◌, List, [], ◌∷◌, ◌++◌, length, map, get_or, Option, Some, None, sym, ap, ap₂, subst, ◌∙◌, arith, All}
use Rattle.std.specs.List.{range_with_len}
use Rattle.std.proofs.lemmas.Bool.{cases_Bool, cases_lt, lt-ltb, le-ltb, eqb-false}
use Rattle.std.proofs.lemmas.Option.{none-some, same_Some}
use Rattle.std.proofs.lemmas.List.{length-map, get_or-map, get_or_past}
use Rattle.std.proofs.lemmas.List.Elements.{All-map, All-weaker}
use Rattle.std.proofs.lemmas.List.FromFn.{length-map-range_with_len, get_or-map-range_with_len, map-range_with_len_more}
use Rattle.pop_model.specs.Names.{vertex_of}
use Rattle.pop_model.specs.Cycles.{AreArrows}
use Rattle.pop_stacks.specs.Rows.{AreWeights}
use Rattle.graph_read.specs.Graphs.{GraphOf, IsVertex, IsEdge, IsGraph}
use Rattle.graph_read.specs.Incidence.{other_end, edges_at}
use Rattle.graph_read.proofs.KnownEdges.{edges_known, edges_few}
use Rattle.graph_read.proofs.VisitedEdges.{other_end_vertex}
use Rattle.cycle_popping.specs.Trees.{variable_of, heads_at, weights_at, heads_of_tree, weights_of_tree}
use Rattle.graph_read.specs.Graphs.{edge_at}
use Rattle.graph_read.specs.Paths.{IsConnected}
use Rattle.cycle_popping.proofs.JoinedVertices.{some_edge}

-- a variable's vertex is a vertex, and not the root
pub record IsTreeVertex (n root w : ℕ) : Type 0 where
  pub vertex : IsVertex n w
  pub other : w ≢ root

-- so it is: variables pass over the root
pub vertex_of_is : (n root v : ℕ) → IsVertex n root → v < n - 1 → IsTreeVertex n root (vertex_of root v)
vertex_of_is n root v at below = elim (cases_lt (v + 1) root) [
  | inl less ↦
      let is : vertex_of root v ≡ v + 1 = ap (λ b. cond b (v + 1) (v + 2)) (lt-ltb (v + 1) root less) in
      record {
        vertex = record { first = omega (arith, is); last = omega (arith, is) };
        other = λ same. absurd (omega (arith, is, same));
      }
  | inr more ↦
      let is : vertex_of root v ≡ v + 2 = ap (λ b. cond b (v + 1) (v + 2)) (le-ltb (v + 1) root more) in
      record {
        vertex = record { first = omega (arith, is); last = omega (arith, is) };
        other = λ same. absurd (omega (arith, is, same));
      }
]

-- the variable of a vertex is below their count
pub variable_below : (n root w v : ℕ) → IsVertex n root → IsVertex n w → variable_of root w ≡ Some v → v < n - 1
variable_below n root w v at vertex is = elim (cases_Bool (w == root)) [
  | inl same ↦ absurd (none-some v (sym (ap (λ b. cond b None (Some (cond (ltb w root) (w - 1) (w - 2)))) same) ∙ is))
  | inr differ ↦
      let some : Some (cond (ltb w root) (w - 1) (w - 2)) ≡ Some v =
      sym (ap (λ b. cond b None (Some (cond (ltb w root) (w - 1) (w - 2)))) differ) ∙ is in
      let value : cond (ltb w root) (w - 1) (w - 2) ≡ v = same_Some _ v some in
      let apart : w ≢ root = eqb-false w root differ in
      let first = vertex.first in
      let last = vertex.last in
      let low = at.first in
      let high = at.last in
      elim (cases_lt w root) [
        | inl less ↦
            let here : w - 1 ≡ v = sym (ap (λ b. cond b (w - 1) (w - 2)) (lt-ltb w root less)) ∙ value in omega arith
        | inr more ↦
            let here : w - 2 ≡ v = sym (ap (λ b. cond b (w - 1) (w - 2)) (le-ltb w root more)) ∙ value in omega arith
      ]
]

-- an edge of the graph joins vertices
pub edge_is : (g : GraphOf) (i : ℕ) → IsGraph g → i < length g.edges → IsEdge g.vertices (edge_at g i)
edge_is g i is below = is.edges_join i (record { u = 0; v = 0; weight = 0 }) below

-- what holds of each variable's row holds of all rows
pub all_rows : {X : Type 0} (P : List X → Type 0) (row : ℕ → List X) (n : ℕ) → ((v : ℕ) → v < n → P (row v))
    → All P (map row (range_with_len 0 n))
all_rows P row n each k d less =
    let size = length-map-range_with_len row 0 n in
    let below : k < n = omega (arith, size) in
    subst P (sym (get_or-map-range_with_len row 0 n k k d below (omega arith))) (each k below)

module _ (g : GraphOf) (root : ℕ) (is : IsGraph g) (at : IsVertex g.vertices root) (joined : IsConnected g root) where
  -- each variable has a slot
  pub some_slot : (v : ℕ) → v < g.vertices - 1 → 0 < length (edges_at g (vertex_of root v))
  some_slot v below =
      let vertex = vertex_of_is g.vertices root v at below in
      some_edge g root (vertex_of root v) joined vertex.vertex vertex.other

  -- a head is below the count of variables
  head_below : (v x w : ℕ) → v < g.vertices - 1 → get_or (heads_at g root v) x None ≡ Some w → w < g.vertices - 1
  head_below v x w below leads =
      let edges : List ℕ = edges_at g (vertex_of root v) in
      let head : ℕ → Option ℕ = λ i. variable_of root (other_end (edge_at g i) (vertex_of root v)) in
      let size : length (heads_at g root v) ≡ length edges = length-map edges head in
      elim (cases_lt x (length edges)) [
        | inl within ↦
            let i : ℕ = get_or edges x 0 in
            let known : i < length g.edges = edges_known g (vertex_of root v) x 0 within in
            let here : head i ≡ Some w = sym (get_or-map head edges x 0 None within) ∙ leads in
            variable_below g.vertices root (other_end (edge_at g i) (vertex_of root v)) w at
            (other_end_vertex g.vertices (vertex_of root v) (edge_at g i) (edge_is g i is known)) here
        | inr past ↦ absurd (none-some w (sym (get_or_past (heads_at g root v) x None (omega (arith, size))) ∙ leads))
      ]

  -- the rows of the heads are arrows
  pub tree_arrows : AreArrows (heads_of_tree g root)
  tree_arrows = record {
    some = all_rows (λ row. 0 < length row) (heads_at g root) (g.vertices - 1)
        (λ v below. omega (
          arith,
          some_slot v below,
          length-map (edges_at g (vertex_of root v))
              (λ i. variable_of root (other_end (edge_at g i) (vertex_of root v))),
        ));
    below = λ v x w leads.
        let count = length-map-range_with_len (heads_at g root) 0 (g.vertices - 1) in
        elim (cases_lt v (g.vertices - 1)) [
          | inl below ↦
              let row : get_or (heads_of_tree g root) v [] ≡ heads_at g root v =
              get_or-map-range_with_len (heads_at g root) 0 (g.vertices - 1) v v [] below (omega arith) in
              let less = head_below v x w below (ap (λ (xs : List (Option ℕ)). get_or xs x None) (sym row) ∙ leads) in
              omega (arith, less, count)
          | inr past ↦
              let none : get_or (heads_of_tree g root) v [] ≡ [] =
              get_or_past (heads_of_tree g root) v [] (omega (arith, count)) in
              absurd (none-some w (sym (ap (λ (xs : List (Option ℕ)). get_or xs x None) none) ∙ leads))
        ];
  }

  -- each slot has a weight, and none is 0
  pub tree_weights : AreWeights (weights_of_tree g root)
  tree_weights = record {
    short = record {
      count = omega (arith, length-map-range_with_len (weights_at g root) 0 (g.vertices - 1), is.vertices_fit);
      each = all_rows (λ row. length row < 2 ^ 31) (weights_at g root) (g.vertices - 1)
          (λ v below. omega (
            arith,
            edges_few g (vertex_of root v),
            is.edges_fit,
            length-map (edges_at g (vertex_of root v)) (λ i. (edge_at g i).weight),
          ));
    };
    some = all_rows (λ row. 0 < length row) (weights_at g root) (g.vertices - 1)
        (λ v below. omega (
          arith,
          some_slot v below,
          length-map (edges_at g (vertex_of root v)) (λ i. (edge_at g i).weight),
        ));
    positive = all_rows (All (λ weight. 0 < weight)) (weights_at g root) (g.vertices - 1)
        (λ v below. All-map (λ weight. 0 < weight) (λ i. (edge_at g i).weight) (edges_at g (vertex_of root v))
        (All-weaker (λ i. i < length g.edges) (λ i. 0 < (edge_at g i).weight)
        (λ i known. let some = (edge_is g i is known).some in omega (arith, some))
        (edges_at g (vertex_of root v)) (edges_known g (vertex_of root v))));
  }

-- rows of the variables before here, and one more
pub rows_more : {X : Type 0} (row : ℕ → X) (n : ℕ) (rows : List X) (x : X)
    → rows ≡ map row (range_with_len 0 n) → x ≡ row n → rows ++ x ∷ [] ≡ map row (range_with_len 0 (n + 1))
rows_more {X} row n rows x are is =
    ap₂ (λ (xs : List X) (y : X). xs ++ y ∷ []) are is ∙ sym (map-range_with_len_more row 0 n n (omega arith))

-- where all variables have their rows
pub rows_whole : {X : Type 0} (row : ℕ → X) (n v count : ℕ) (rows : List X)
    → rows ≡ map row (range_with_len 0 v) → count ≡ n → v ≤ count - 1 → count - 1 ≤ v
    → rows ≡ map row (range_with_len 0 (n - 1))
rows_whole row n v count rows are is low high =
    let same : v ≡ n - 1 = omega arith in are ∙ ap (λ m. map row (range_with_len 0 m)) same
