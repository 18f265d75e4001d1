-- Where a path joins each vertex to the root, each vertex but the root has an edge that isn't a loop: the last one of the
-- path that comes from elsewhere.
use Rattle.std.proofs.Common.{inl, inr, ◌≡◌, ◌≢◌, ℕ, suc, ◌+◌, ◌<◌, Bool, true, false, cond, ◌==◌, not, ◌&&◌, ◌||◌, List, [], ◌∷◌, length, filter, sym, ap, subst, ◌∙◌, arith, Contains, eqb-true, eq-eqb, ne_eqb}
use Rattle.std.specs.List.{enumerate_from}
use Rattle.std.proofs.lemmas.Bool.{cases_Bool, cases_eq, false≢true}
use Rattle.std.proofs.lemmas.List.{length-map}
use Rattle.pop_model.proofs.Rising.{member_cases}
use Rattle.graph_read.specs.declared.edge.Edge.{Edge}
use Rattle.graph_read.specs.Graphs.{GraphOf, IsVertex}
use Rattle.graph_read.specs.Incidence.{touches, other_end, edges_at}
use Rattle.graph_read.specs.Paths.{IsPath}
use Rattle.graph_read.proofs.IncidenceLemmas.{stands_at}
use Rattle.graph_read.specs.Paths.{IsConnected}

-- an edge that leads from a vertex to another one stands at that
leads_to : (e : Edge) (a b : ℕ) → touches e a ≡ true → other_end e a ≡ b → a ≢ b → stands_at e b ≡ true
leads_to e a b touch end differ = elim (cases_Bool (e.u == a)) [
  | inl from ↦
      let to : e.v ≡ b = sym (ap (λ t. cond t e.v e.u) from) ∙ end in
      let start : e.u ≡ a = eqb-true e.u a from in
      let no_loop : (e.u == e.v) ≡ false = ne_eqb e.u e.v (λ same. differ (sym start ∙ same ∙ to)) in
      let away : (e.u == b) ≡ false = ne_eqb e.u b (λ same. differ (sym start ∙ same)) in
      let there : (e.v == b) ≡ true = eq-eqb e.v b to in
      ap (λ t. (t || (e.v == b)) && not (e.u == e.v)) away ∙ ap (λ t. t && not (e.u == e.v)) there
      ∙ ap (λ t. not t) no_loop
  | inr other ↦
      let to : e.u ≡ b = sym (ap (λ t. cond t e.v e.u) other) ∙ end in
      let back : (e.v == a) ≡ true = sym (ap (λ t. t || (e.v == a)) other) ∙ touch in
      let start : e.v ≡ a = eqb-true e.v a back in
      let no_loop : (e.u == e.v) ≡ false = ne_eqb e.u e.v (λ same. differ (sym start ∙ sym same ∙ to)) in
      let there : (e.u == b) ≡ true = eq-eqb e.u b to in
      ap (λ t. (t || (e.v == b)) && not (e.u == e.v)) there ∙ ap (λ t. not t) no_loop
]

-- an edge of the graph that stands at a vertex
record HasEdge (g : GraphOf) (w : ℕ) : Type 0 where
  edge : Edge
  has : Contains g.edges edge
  stands : stands_at edge w ≡ true

-- a path to another vertex has an edge that stands there
path_edge : (g : GraphOf) (a b : ℕ) (path : List Edge) → a ≢ b → IsPath g a path b → HasEdge g b
path_edge g a b [] differ is = absurd (differ is)
path_edge g a b (e ∷ path) differ (has, touch, rest) = elim (cases_eq (other_end e a) b) [
  | inl end ↦ record { edge = e; has = has; stands = leads_to e a b touch end differ }
  | inr on ↦ path_edge g (other_end e a) b path on rest
]

-- a list that has an edge of the vertex has the number of one
some_number : (w n : ℕ) (es : List Edge) (e : Edge) → Contains es e → stands_at e w ≡ true
    → 0 < length (filter (λ (p : ℕ × Edge). stands_at p.1 w) (enumerate_from n es))
some_number w n [] e has stands = absurd (omega (arith, has.1))
some_number w n (f ∷ es) e has stands =
    let keeps : ℕ × Edge → Bool = λ p. stands_at p.1 w in
    let rest : List (ℕ × Edge) = filter keeps (enumerate_from (n + 1) es) in
    elim (cases_Bool (stands_at f w)) [
      | inl here ↦
          subst (λ b. 0 < length (cond b ((n, f) ∷ rest) rest)) (sym here) (let some : 0 < suc (length rest) = omega arith in some)
      | inr other ↦
          subst (λ b. 0 < length (cond b ((n, f) ∷ rest) rest)) (sym other)
          (elim (member_cases f es e has) [
            | inl same ↦ absurd (false≢true (sym other ∙ ap (λ x. stands_at x w) same ∙ stands))
            | inr behind ↦ some_number w (n + 1) es e behind stands
          ])
    ]

-- so each vertex but the root has an edge
pub some_edge : (g : GraphOf) (root w : ℕ) → IsConnected g root → IsVertex g.vertices w → w ≢ root
    → 0 < length (edges_at g w)
some_edge g root w joined vertex differ =
    let path = joined w vertex in
    let last = path_edge g root w path.0 (λ same. differ (sym same)) path.1 in
    let some = some_number w 0 g.edges last.edge last.has last.stands in
    let size = length-map (filter (λ (p : ℕ × Edge). stands_at p.1 w) (enumerate_from 0 g.edges)) (λ (p : ℕ × Edge). p.0) in
    omega (arith, some, size)
