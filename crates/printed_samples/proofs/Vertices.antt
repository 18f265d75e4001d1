-- Variables and their vertices, and the edges at a vertex.
use Rattle.std.proofs.Common.{inl, inr, ◌≡◌, ◌≢◌, ℕ, ◌+◌, ◌-◌, ◌≤◌, Bool, true, cond, ltb, ◌==◌, not, ◌&&◌, ◌||◌, get_or, Some, None, sym, ap, ap₂, ◌∙◌, arith, All, eqb-true, eq-eqb, ne_eqb}
use Rattle.std.proofs.lemmas.Bool.{cases_Bool, cases_eq, cases_lt, lt-ltb, le-ltb, false≢true}
use Rattle.std.proofs.lemmas.Option.{none-some, same_Some, get_or_from_slice_get}
use Rattle.std.proofs.lemmas.List.Elements.{All-map}
use Rattle.pop_model.specs.Names.{vertex_of}
use Rattle.graph_read.specs.declared.edge.Edge.{Edge}
use Rattle.graph_read.specs.Graphs.{GraphOf, IsVertex, edge_at}
use Rattle.graph_read.specs.Incidence.{is_loop, other_end, edges_at}
use Rattle.graph_read.proofs.IncidenceLemmas.{stands_at}
use Rattle.graph_read.proofs.Numbering.{numbered, numbered_are}
use Rattle.cycle_popping.specs.Trees.{variable_of}
use Rattle.printed_samples.specs.Arrows.{HasEnds}

-- what isn't the root has a variable
variable_there : (root w : ℕ) → w ≢ root → variable_of root w ≡ Some (cond (ltb w root) (w - 1) (w - 2))
variable_there root w other =
    ap (λ b. cond b None (Some (cond (ltb w root) (w - 1) (w - 2)))) (ne_eqb w root other)

-- a vertex without a variable is the root
pub no_variable : (root w : ℕ) → variable_of root w ≡ None → w ≡ root
no_variable root w is = elim (cases_eq w root) [
  | inl same ↦ same
  | inr other ↦
      absurd (none-some (cond (ltb w root) (w - 1) (w - 2)) (sym is ∙ variable_there root w other))
]

-- the vertex of the variable of a vertex
pub vertex_back : (n root w v : ℕ) → 1 ≤ root → IsVertex n w → variable_of root w ≡ Some v → vertex_of root v ≡ w
vertex_back n root w v some vertex is = elim (cases_eq w root) [
  | inl same ↦
      absurd (none-some v (sym (ap (λ b. cond b None (Some (cond (ltb w root) (w - 1) (w - 2)))) (eq-eqb w root same))
      ∙ is))
  | inr other ↦
      let value : cond (ltb w root) (w - 1) (w - 2) ≡ v =
      same_Some _ v (sym (variable_there root w other) ∙ is) in
      let first = vertex.first in
      elim (cases_lt w root) [
        | inl less ↦
            let here : w - 1 ≡ v = sym (ap (λ b. cond b (w - 1) (w - 2)) (lt-ltb w root less)) ∙ value in
            ap (λ t. cond t (v + 1) (v + 2)) (lt-ltb (v + 1) root (omega arith)) ∙ omega arith
        | inr more ↦
            let here : w - 2 ≡ v = sym (ap (λ b. cond b (w - 1) (w - 2)) (le-ltb w root more)) ∙ value in
            ap (λ t. cond t (v + 1) (v + 2)) (le-ltb (v + 1) root (omega arith)) ∙ omega arith
      ]
]

-- the variable of the vertex of a variable
pub variable_back : (root v : ℕ) → 1 ≤ root → variable_of root (vertex_of root v) ≡ Some v
variable_back root v some = elim (cases_lt (v + 1) root) [
  | inl less ↦
      let is : vertex_of root v ≡ v + 1 = ap (λ b. cond b (v + 1) (v + 2)) (lt-ltb (v + 1) root less) in
      let other : v + 1 ≢ root = λ same. absurd (omega arith) in
      let value : v + 1 - 1 ≡ v = omega arith in
      ap (variable_of root) is ∙ variable_there root (v + 1) other
      ∙ ap (λ b. Some (cond b (v + 1 - 1) (v + 1 - 2))) (lt-ltb (v + 1) root less) ∙ ap (λ (u : ℕ). Some u) value
  | inr more ↦
      let is : vertex_of root v ≡ v + 2 = ap (λ b. cond b (v + 1) (v + 2)) (le-ltb (v + 1) root more) in
      let other : v + 2 ≢ root = λ same. absurd (omega arith) in
      let value : v + 2 - 2 ≡ v = omega arith in
      ap (variable_of root) is ∙ variable_there root (v + 2) other
      ∙ ap (λ b. Some (cond b (v + 2 - 1) (v + 2 - 2))) (le-ltb (v + 2) root (omega arith))
      ∙ ap (λ (u : ℕ). Some u) value
]

-- an edge at a vertex stands there
pub listed_stands : (g : GraphOf) (w : ℕ) → All (λ i. stands_at (edge_at g i) w ≡ true) (edges_at g w)
listed_stands g w =
    let test : Edge → Bool = λ e. stands_at e w in
    let none : Edge = record { u = 0; v = 0; weight = 0 } in
    All-map (λ i. stands_at (edge_at g i) w ≡ true) (λ (p : ℕ × Edge). p.0) (numbered test g.edges)
    (λ k d within.
    let p : ℕ × Edge = get_or (numbered test g.edges) k d in
    let is = numbered_are test g.edges k d within in
    ap test (get_or_from_slice_get g.edges p.0 p.1 none is.0) ∙ is.1)

-- an edge that stands at a vertex has that end and the other one
pub has_ends : (e : Edge) (w : ℕ) → stands_at e w ≡ true → HasEnds e w (other_end e w)
has_ends e w stands = elim (cases_Bool (e.u == w)) [
  | inl from ↦ inl (eqb-true e.u w from, sym (ap (λ b. cond b e.v e.u) from))
  | inr other ↦ elim (cases_Bool (e.v == w)) [
    | inl to ↦ inr (sym (ap (λ b. cond b e.v e.u) other), eqb-true e.v w to)
    | inr neither ↦
        absurd (false≢true (sym (ap₂ (λ a b. (a || b) && not (is_loop e)) other neither) ∙ stands))
  ]
]

-- two tails of one edge are each the head of the other
pub turned : (e : Edge) (a b c d : ℕ) → HasEnds e a b → HasEnds e c d → a ≢ c → (a ≡ d) × (c ≡ b)
turned e a b c d one other apart = elim one [
  | inl (u, v) ↦ elim other [
    | inl (x, y) ↦ absurd (apart (sym u ∙ x))
    | inr (x, y) ↦ (sym u ∙ x, sym y ∙ v)
  ]
  | inr (u, v) ↦ elim other [
    | inl (x, y) ↦ (sym v ∙ y, sym x ∙ u)
    | inr (x, y) ↦ absurd (apart (sym v ∙ y))
  ]
]
