-- The sum in a summary, vertex by vertex. A vertex is at most 2 ^ 22, and its slot is below the number of edges at it.
-- The numbers of edges at all vertices sum to at most 2 ^ 24, so the sum is at most 2 ^ 46.
use Rattle.std.proofs.Common.{◌≡◌, ℕ, ◌+◌, ◌*◌, ◌^◌, ◌<◌, ◌≤◌, cond, List, length, take, get_or, slice_index, sym, ap, ap₂, subst, ◌∙◌, arith}
use Rattle.std.specs.Prelude.{sum_by}
use Rattle.std.specs.List.{enumerate_from}
use Rattle.std.proofs.lemmas.Bool.{le-ltb}
use Rattle.std.proofs.lemmas.Nat.{mul-le}
use Rattle.std.proofs.lemmas.List.{get_or_default, take_all}
use Rattle.std.proofs.lemmas.List.FromFn.{length-enumerate_from}
use Rattle.std.proofs.lemmas.List.Sums.{sum_by_more}
use Rattle.pop_model.specs.Names.{vertex_of}
use Rattle.graph_read.specs.Graphs.{GraphOf}
use Rattle.graph_read.specs.Incidence.{edges_at}
use Rattle.pop_print.specs.Made.{slot_term, slot_sum}
use Rattle.pop_print.proofs.Degrees.{degree, degrees_below, degrees_more, degrees_few}
use Rattle.pop_print.proofs.OutputLemmas.{numbered_at}

-- the vertex of a variable where vertex 1 is the root
vertex_one : (v : ℕ) → vertex_of 1 v ≡ v + 2
vertex_one v = ap (λ b. cond b (v + 1) (v + 2)) (le-ltb (v + 1) 1 (omega arith))

-- the term of a variable more
pub terms_more : (values : List ℕ) (v w x total : ℕ) → v < length values → w ≡ vertex_of 1 v
    → x ≡ slice_index values v → total ≡ sum_by slot_term (take v (enumerate_from 0 values))
    → total + w * (x + 1) ≡ sum_by slot_term (take (v + 1) (enumerate_from 0 values))
terms_more values v w x total below vertex slot is =
    let k = slice_index values v in
    let inside : v < length (enumerate_from 0 values) = omega (arith, length-enumerate_from 0 values) in
    let at : get_or (enumerate_from 0 values) v (v, k) ≡ (v, k) =
    numbered_at values v k below (get_or_default values v 0 k below) in
    ap₂ (λ a b. a + b) is (ap₂ (λ a b. a * (b + 1)) vertex slot ∙ sym (ap slot_term at))
    ∙ sym (sum_by_more slot_term (enumerate_from 0 values) v (v, k) inside)

-- the terms of all variables
pub terms_all : (values : List ℕ) (n total : ℕ) → length values ≤ n
    → total ≡ sum_by slot_term (take n (enumerate_from 0 values)) → total ≡ slot_sum values
terms_all values n total all is =
    is ∙ ap (sum_by slot_term)
    (take_all n (enumerate_from 0 values) (omega (arith, all, length-enumerate_from 0 values)))

-- the sum with the term of a variable more is small, as the vertex is, and the slot is below the degree
pub sum_small : (g : GraphOf) (v w x total : ℕ) → g.vertices ≤ 2 ^ 22 → v + 1 < g.vertices → w ≡ vertex_of 1 v
    → x < length (edges_at g (vertex_of 1 v)) → total ≤ 2 ^ 22 * degrees_below g v
    → total + w * (x + 1) ≤ 2 ^ 22 * degrees_below g (v + 1)
sum_small g v w x total few below vertex slot small =
    let named : w ≡ v + 2 = vertex ∙ vertex_one v in
    let within : x < degree g v = subst (λ u. x < length (edges_at g u)) (vertex_one v) slot in
    omega (
      arith,
      mul-le w (x + 1) (2 ^ 22) (degree g v) (omega (arith, few, below, named)) (omega (arith, within)),
      degrees_more g v,
      small,
    )

-- so the sum fits
pub sum_fits : (g : GraphOf) (n total : ℕ) → length g.edges ≤ 2 ^ 23 → total ≤ 2 ^ 22 * degrees_below g n
    → total < 2 ^ 64
sum_fits g n total few small = omega (arith, degrees_few g n, few, small)
