-- The edges of a tree's arrows join each vertex to the root.
use Rattle.std.proofs.Common.{inl, inr, ◌≡◌, ℕ, ◌-◌, true, cond, ◌==◌, ◌||◌, List, [], ◌∷◌, refl, sym, ap, subst, ◌∙◌, arith, All, Contains, eqb-true, eq-eqb}
use Rattle.std.proofs.lemmas.Bool.{cases_Bool}
use Rattle.std.proofs.lemmas.List.{length-map}
use Rattle.std.proofs.lemmas.List.Elements.{All-contains, All-map, All-weaker, Contains-get_or}
use Rattle.graph_read.specs.declared.edge.Edge.{Edge}
use Rattle.graph_read.specs.Graphs.{GraphOf, edge_at}
use Rattle.graph_read.specs.Incidence.{touches, other_end}
use Rattle.graph_read.specs.Paths.{IsPath}
use Rattle.graph_read.proofs.JoinedPaths.{joined_both_ways}
use Rattle.graph_read.proofs.Numbering.{contains_map}
use Rattle.printed_samples.specs.Arrows.{Arrow, HasEnds, IsAlong}
use Rattle.printed_samples.specs.Trees.{AreSteps, graph_along}
use Rattle.printed_samples.specs.TreeLaws.{TreeSpans}

-- an edge with these ends leads from the one to the other
ends_lead : (e : Edge) (a b : ℕ) → HasEnds e a b → (touches e a ≡ true) × (other_end e a ≡ b)
ends_lead e a b (inl (u, v)) = (
  ap (λ t. t || (e.v == a)) (eq-eqb e.u a u),
  ap (λ t. cond t e.v e.u) (eq-eqb e.u a u) ∙ v,
)
ends_lead e a b (inr (u, v)) = elim (cases_Bool (e.u == a)) [
  | inl same ↦ (
    ap (λ t. t || (e.v == a)) same,
    ap (λ t. cond t e.v e.u) same ∙ v ∙ sym (eqb-true e.u a same) ∙ u,
  )
  | inr other ↦ (
    ap (λ t. t || (e.v == a)) other ∙ eq-eqb e.v a v,
    ap (λ t. cond t e.v e.u) other ∙ u,
  )
]

-- steps along arrows are a path of their edges
steps_path : (g : GraphOf) (arrows : List Arrow) → All (IsAlong g) arrows → (path : List Arrow) (w r : ℕ)
    → AreSteps arrows w path r → (edges : List Edge) × IsPath (graph_along g arrows) w edges r
steps_path g arrows along [] w r same = ([], same)
steps_path g arrows along (a ∷ path) w r (has, tail, rest) =
    let e : Edge = edge_at g (a.number - 1) in
    let is = All-contains (IsAlong g) arrows a along has in
    let lead = ends_lead e a.tail a.head is.ends in
    let touch : touches e w ≡ true = ap (touches e) (sym tail) ∙ lead.0 in
    let on : a.head ≡ other_end e w = sym (ap (other_end e) (sym tail) ∙ lead.1) in
    let behind = steps_path g arrows along path a.head r rest in (
      e ∷ behind.0,
      (
        contains_map (λ (b : Arrow). edge_at g (b.number - 1)) arrows a has,
        touch,
        subst (λ u. IsPath (graph_along g arrows) u behind.0 r) on behind.1,
      ),
    )

-- the law
pub tree_spans : TreeSpans
tree_spans g root arrows is =
    let edge : Arrow → Edge = λ a. edge_at g (a.number - 1) in
    let none : Edge = record { u = 0; v = 0; weight = 0 } in
    record {
      vertices = refl;
      few = omega (arith, length-map arrows edge, is.count);
      of_graph = All-map (λ e. Contains g.edges e) edge arrows
          (All-weaker (IsAlong g) (λ a. Contains g.edges (edge_at g (a.number - 1)))
          (λ a along. let first = along.first in let last = along.last in
          Contains-get_or g.edges (a.number - 1) none (omega arith))
          arrows is.along);
      joined = λ w vertex.
          let lead = is.leads w vertex in
          joined_both_ways (graph_along g arrows) w root (steps_path g arrows is.along lead.0 w root lead.1);
    }
