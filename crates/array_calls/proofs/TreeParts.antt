-- The instance of a graph's trees fits, its samples have a slot of each vertex, and rows that are put are those of a
-- tree.
use Rattle.std.proofs.Common.{◌≡◌, ◌≢◌, inl, inr, ℕ, ◌+◌, ◌-◌, ◌<◌, ◌≤◌, cond, lt-ltb, le-ltb, List, [], ◌∷◌, Option, None, Some, length, get_or, sym, ap, subst, ◌∙◌, arith, zero-add}
use Rattle.std.specs.List.{enumerate_from}
use Rattle.std.proofs.lemmas.Bool.{cases_lt}
use Rattle.std.proofs.lemmas.List.{length-map}
use Rattle.std.proofs.lemmas.List.FromFn.{length-map-range_with_len, get_or-map-range_with_len, length-enumerate_from}
use Rattle.pop_model.specs.Stacks.{StackTable, height_of, stacks_for, value_at, variables_of}
use Rattle.pop_model.specs.Families.Family.{Cycles}
use Rattle.pop_model.specs.Instances.{FamilyFits, Instance}
use Rattle.pop_model.specs.Names.{vertex_of}
use Rattle.graph_read.specs.Graphs.{GraphOf, IsVertex, edge_at}
use Rattle.graph_read.specs.Incidence.{edges_at, other_end}
use Rattle.cycle_popping.specs.Trees.{variable_of, heads_at, weights_at, heads_of_tree, weights_of_tree}
use Rattle.confluence_core.specs.declared.end.End.{End}
use Rattle.confluence_core.specs.Runs.{IsEndOver}
use Rattle.pop_batch.specs.Parts.{CanStart, IsPartEnd}
use Rattle.array_calls.specs.Draws.{given}
use Rattle.array_calls.specs.Trees.{AreTreesOf, FitFrom, HaveSlots, trees_under, variable_at, without_root}

-- there are as many rows of weights as vertices but the root
pub count_of_weights : (g : GraphOf) (root : ℕ) → length (weights_of_tree g root) ≡ g.vertices - 1
count_of_weights g root = length-map-range_with_len (weights_at g root) 0 (g.vertices - 1)

-- a variable has a weight for each edge at its vertex
pub slots_of_weights : (g : GraphOf) (root v : ℕ) → v < g.vertices - 1
    → length (get_or (weights_of_tree g root) v []) ≡ length (edges_at g (vertex_of root v))
slots_of_weights g root v below =
    ap length (get_or-map-range_with_len (weights_at g root) 0 (g.vertices - 1) v v [] below (zero-add v))
    ∙ length-map (edges_at g (vertex_of root v)) (λ i. (edge_at g i).weight)

-- and a slot
slots_of_heads : (g : GraphOf) (root v : ℕ) → v < g.vertices - 1
    → length (get_or (heads_of_tree g root) v []) ≡ length (edges_at g (vertex_of root v))
slots_of_heads g root v below =
    ap length (get_or-map-range_with_len (heads_at g root) 0 (g.vertices - 1) v v [] below (zero-add v))
    ∙ length-map (edges_at g (vertex_of root v)) (λ i. variable_of root (other_end (edge_at g i) (vertex_of root v)))

-- each variable has a slot for each of its weights
tree_fits : (s : StackTable) (g : GraphOf) (root : ℕ) → s.weights ≡ weights_of_tree g root
    → FamilyFits s (Cycles (heads_of_tree g root))
tree_fits s g root same =
    let heads = length-map-range_with_len (heads_at g root) 0 (g.vertices - 1) in
    let weights = ap length same ∙ count_of_weights g root in (
      heads ∙ sym weights,
      λ v below.
          let less : v < g.vertices - 1 = omega (arith, heads, below) in
          slots_of_heads g root v less ∙ sym (slots_of_weights g root v less)
          ∙ ap (λ w. length (get_or w v [])) (sym same),
    )

-- arrows with the heads of a graph's trees fit stacks of their weights
pub fits_tree : (s : StackTable) (g : GraphOf) (root : ℕ) (heads : List (List (Option ℕ)))
    → s.weights ≡ weights_of_tree g root → heads ≡ heads_of_tree g root → FamilyFits s (Cycles heads)
fits_tree s g root heads weights_are heads_are =
    subst (λ h. FamilyFits s (Cycles h)) (sym heads_are) (tree_fits s g root weights_are)

-- the vertex of a vertex's variable is that vertex
pub vertex_back : (root w : ℕ) → 1 ≤ root → 1 ≤ w → w ≢ root → vertex_of root (variable_at root w) ≡ w
vertex_back root w some first other = elim (cases_lt w root) [
  | inl low ↦
      let v : variable_at root w ≡ w - 1 = ap (λ b. cond b (w - 1) (w - 2)) (lt-ltb w root low) in
      ap (vertex_of root) v
      ∙ ap (λ b. cond b (w - 1 + 1) (w - 1 + 2)) (lt-ltb (w - 1 + 1) root (omega (arith, low, first)))
      ∙ omega (arith, first)
  | inr high ↦
      let past : root < w = omega (arith, high, other) in
      let v : variable_at root w ≡ w - 2 = ap (λ b. cond b (w - 1) (w - 2)) (le-ltb w root high) in
      ap (vertex_of root) v
      ∙ ap (λ b. cond b (w - 2 + 1) (w - 2 + 2)) (le-ltb (w - 2 + 1) root (omega (arith, past, some)))
      ∙ omega (arith, past, some)
]

-- and that variable is one of them
pub variable_below : (root w n : ℕ) → 1 ≤ root → root ≤ n → 1 ≤ w → w ≤ n → w ≢ root → variable_at root w < n - 1
variable_below root w n some root_last first last other = elim (cases_lt w root) [
  | inl low ↦
      let v : variable_at root w ≡ w - 1 = ap (λ b. cond b (w - 1) (w - 2)) (lt-ltb w root low) in
      omega (arith, v, low, first, root_last)
  | inr high ↦
      let past : root < w = omega (arith, high, other) in
      let v : variable_at root w ≡ w - 2 = ap (λ b. cond b (w - 1) (w - 2)) (le-ltb w root high) in
      omega (arith, v, past, some, last)
]

-- the end of a sample has for each variable a cursor below its height, and its value there
pub part_over : (i : Instance) (j : ℕ) (from : Option (List ℕ)) (end : End) → IsPartEnd i j from end
    → IsEndOver (stacks_for j i.stacks) end
part_over i j None end is = is.over
part_over i j (Some cursors) end is = is.over

-- where a sample stands each vertex but the root has one of its slots
pub have_slots : (g : GraphOf) (root : ℕ) (i : Instance) (j : ℕ) (end : End) → IsVertex g.vertices root
    → AreTreesOf g root i → IsEndOver (stacks_for j i.stacks) end → HaveSlots g root end.values
have_slots g root i j end root_is of is =
    let t : Instance = trees_under of.key of.height g root in
    let s : StackTable = stacks_for j t.stacks in
    let over : IsEndOver s end =
    subst (λ (x : Instance). IsEndOver (stacks_for j x.stacks) end) of.is is in
    let some = root_is.first in
    let last = root_is.last in
    let weights = count_of_weights g root in
    let cursors = over.count in
    let values = ap length over.values.are
    ∙ length-map (enumerate_from 0 end.cursors) (λ p. value_at s p.0 p.1)
    ∙ length-enumerate_from 0 end.cursors in
    record {
      count = omega (arith, weights, cursors, values, some, last);
      each = λ w vertex other.
          let first = vertex.first in
          let within = vertex.last in
          let v = variable_at root w in
          let below : v < g.vertices - 1 = variable_below root w g.vertices some last first within other in
          let value = over.values.within v (omega (arith, weights, below)) in
          let slots = slots_of_weights g root v below ∙ ap (λ u. length (edges_at g u)) (vertex_back root w some first other) in
          omega (arith, value, slots);
    }

-- and a cursor
pub have_cursors : (g : GraphOf) (root : ℕ) (i : Instance) (j : ℕ) (end : End) → IsVertex g.vertices root
    → AreTreesOf g root i → IsEndOver (stacks_for j i.stacks) end → length end.cursors + 1 ≡ g.vertices
have_cursors g root i j end root_is of is =
    let t : Instance = trees_under of.key of.height g root in
    let over : IsEndOver (stacks_for j t.stacks) end =
    subst (λ (x : Instance). IsEndOver (stacks_for j x.stacks) end) of.is is in
    let some = root_is.first in
    let last = root_is.last in
    omega (arith, count_of_weights g root, over.count, some, last)

-- cursors below the height, one for each vertex, are such that trees can start there without that of the root
pub trees_can_start : (g : GraphOf) (root height : ℕ) (key from : List ℕ) → IsVertex g.vertices root
    → FitFrom g.vertices height from → CanStart (trees_under key height g root) (given (without_root root from) 0)
trees_can_start g root height key [] root_is fits = tt
trees_can_start g root height key (k ∷ from) root_is fits =
    let numbers = k ∷ from in
    let at : ℕ → ℕ = λ v. get_or numbers (vertex_of root v - 1) 0 in
    let count = length numbers - 1 in
    let size : length (without_root root numbers) ≡ count = length-map-range_with_len at 0 count in
    start_or_none (trees_under key height g root) (without_root root numbers)
    (elim fits.count [
      | inl none ↦ absurd (omega (arith, none))
      | inr all ↦ omega (arith, all, size, count_of_weights g root)
    ])
    (λ v below.
    let within : v < count = omega (arith, below, size) in
    let is = get_or-map-range_with_len at 0 count v v 0 within (zero-add v) in
    let less = fits.below (vertex_of root v - 1) (omega (arith, vertex_before root v (length numbers) within)) in
    omega (arith, is, less))
  where
    start_or_none : (i : Instance) (c : List ℕ) → variables_of i.stacks ≡ length c
        → ((v : ℕ) → v < length c → get_or c v 0 < height_of i.stacks v) → CanStart i (given c 0)
    start_or_none i [] count within = tt
    start_or_none i (k ∷ c) count within = (count, λ v below. within v (omega (arith, below, count)))

    vertex_before : (root v n : ℕ) → v < n - 1 → vertex_of root v - 1 < n
    vertex_before root v n below = elim (cases_lt (v + 1) root) [
      | inl low ↦ (let is : vertex_of root v ≡ v + 1 = ap (λ b. cond b (v + 1) (v + 2)) (lt-ltb (v + 1) root low) in
          omega (arith, is, below))
      | inr high ↦ (let is : vertex_of root v ≡ v + 2 = ap (λ b. cond b (v + 1) (v + 2)) (le-ltb (v + 1) root high) in
          omega (arith, is, below))
    ]
