-- At the end of a search just the vertices are met that paths join to the root.
-- Each vertex met is found, and once all vertices found were visited, the other ends of their edges are met. So each
-- step of a path from the root leads from a vertex met to one that is met.
use Rattle.std.proofs.Common.{◌≡◌, inl, inr, ℕ, ◌+◌, ◌-◌, ◌<◌, ◌≤◌, Bool, false, not, List, [], ◌∷◌, length, get_or, None, Some, position, sym, ap, ◌∙◌, subst, arith, length-append}
use Rattle.std.proofs.lemmas.List.{get_or_default, get_or_append_left}
use Rattle.std.proofs.lemmas.List.Elements.{All-contains}
use Rattle.std.specs.List.{position_or_len}
use Rattle.std.proofs.lemmas.List.Quantifiers.{position-Some}
use Rattle.std.proofs.lemmas.List.Sums.{fails_before_first}
use Rattle.std.proofs.lemmas.Bool.{cases_eq, ltb-false, not-false, not-true, true≢false}
use Rattle.pop_edge.proofs.WordsLemmas.{none_from}
use Rattle.pop_model.specs.Places.{IsLeast}
use Rattle.graph_read.specs.declared.search.Search.{Search}
use Rattle.graph_read.specs.declared.edge.Edge.{Edge}
use Rattle.graph_read.specs.Graphs.{GraphOf, IsVertex, IsEdge, IsGraph}
use Rattle.graph_read.specs.Incidence.{other_end}
use Rattle.graph_read.specs.Paths.{IsPath, IsJoined, IsCutOff}
use Rattle.graph_read.specs.Search.{IsMet, IsSearch, Goes, HasVisited, AreJoined}
use Rattle.graph_read.proofs.VisitedEdges.{other_end_vertex}

-- the first vertices found were visited
pub record Reaches (g : GraphOf) (root at : ℕ) (s : Search) : Type 0 where
  pub search : IsSearch g root s
  pub root_met : IsMet s.met.items root
  pub visited : (k : ℕ) → k < at → HasVisited g s (get_or s.found.items k 0)
  pub within : at ≤ length s.found.items

-- before the first
pub reaches_none : (g : GraphOf) (root : ℕ) (s : Search) → IsSearch g root s → IsMet s.met.items root
    → Reaches g root 0 s
reaches_none g root s search met =
    record { search = search; root_met = met; visited = λ k h. absurd (omega (arith, h)); within = omega arith }

-- with one visited more
pub reaches_more : (g : GraphOf) (root at v : ℕ) (s t : Search) → Reaches g root at s → at < length s.found.items
    → v ≡ get_or s.found.items at 0 → Goes s t → HasVisited g t v
    → ((r : ℕ) → IsSearch g r s → IsSearch g r t) → Reaches g root (at + 1) t
reaches_more g root at v s t reaches below is goes visited search =
    let size : length t.found.items ≡ length s.found.items + length goes.more =
    ap length goes.behind ∙ length-append s.found.items goes.more in
    let still = λ (k : ℕ) (lt : k < length s.found.items).
    ap (λ fs. get_or fs k 0) goes.behind ∙ get_or_append_left s.found.items goes.more 0 k lt in
    record {
      search = search root reaches.search;
      root_met = goes.kept root reaches.root_met;
      visited = λ k h.
          elim (cases_eq k at) [
            | inl same ↦ subst (HasVisited g t) (is ∙ ap (λ n. get_or s.found.items n 0) (sym same)
                ∙ sym (still k (omega (arith, same, below)))) visited
            | inr ne ↦ subst (HasVisited g t) (sym (still k (omega (arith, h, below))))
                (λ e has touch. goes.kept (other_end e (get_or s.found.items k 0))
                (reaches.visited k (omega (arith, h, ne)) e has touch))
          ];
      within = omega (arith, below, size);
    }

-- along a path from a vertex met to the next
met_along : (g : GraphOf) (s : Search) → IsGraph g
    → ((w : ℕ) → IsVertex g.vertices w → IsMet s.met.items w → HasVisited g s w) → (a : ℕ) (path : List Edge) (b : ℕ)
    → IsVertex g.vertices a → IsMet s.met.items a → IsPath g a path b → IsMet s.met.items b
met_along g s graph closed a [] b v met same = subst (IsMet s.met.items) same met
met_along g s graph closed a (e ∷ path) b v met p =
    met_along g s graph closed (other_end e a) path b
    (other_end_vertex g.vertices a e (All-contains (IsEdge g.vertices) g.edges e graph.edges_join p.0))
    (closed a v met e p.0 p.1) p.2

-- once all found were visited
pub reaches_all : (g : GraphOf) (root at : ℕ) (s : Search) → IsGraph g → IsVertex g.vertices root → Reaches g root at s
    → length s.found.items ≤ at → AreJoined g root s.met.items
reaches_all g root at s graph vertex reaches all =
    let closed = λ (w : ℕ) (v : IsVertex g.vertices w) (met : IsMet s.met.items w).
    let listed = reaches.search.listed w v met in
    subst (HasVisited g s)
    (get_or_default s.found.items listed.0 0 w listed.1 ∙ listed.2)
    (reaches.visited listed.0 (omega (arith, listed.1, all))) in
    record {
      size = reaches.search.size;
      joined = reaches.search.joined;
      all = λ w v joined. met_along g s graph closed root joined.0 w vertex reaches.root_met joined.1;
    }

-- each vertex met is one that the root joins, so the first vertex that isn't met is the least that is cut off
pub least_unmet : (g : GraphOf) (root k : ℕ) (met : List Bool) → AreJoined g root met → position not met ≡ Some k
    → IsLeast (IsCutOff g root) (k + 1)
least_unmet g root k met joined is =
    let p = position-Some not met k false is in
    let place : k + 1 - 1 ≡ k = omega arith in
    let unmarked : get_or met (k + 1 - 1) false ≡ false =
    ap (λ n. get_or met n false) place ∙ not-true (get_or met k false) p.1 in
    let vertex : IsVertex g.vertices (k + 1) =
    record { first = omega arith; last = omega (arith, p.0, joined.size) } in
    record {
      holds = record {
        vertex = vertex;
        apart = λ path. true≢false (sym (joined.all (k + 1) vertex path) ∙ unmarked);
      };
      none_before = λ m lt cut.
          let before : not (get_or met (m - 1) false) ≡ false =
          p.2 (m - 1) (omega (arith, lt, cut.vertex.first)) in
          cut.apart (joined.joined m cut.vertex (not-false (get_or met (m - 1) false) before));
    }

-- where all are met, the root joins each vertex
pub none_unmet : (g : GraphOf) (root : ℕ) (met : List Bool) → AreJoined g root met → position not met ≡ None
    → (w : ℕ) → IsVertex g.vertices w → IsJoined g root w
none_unmet g root met joined is w v =
    let past = ltb-false (position_or_len not met) (length met) (none_from _ _ is) in
    let before : not (get_or met (w - 1) false) ≡ false =
    fails_before_first not met (w - 1) false (omega (arith, past, joined.size, v.first, v.last)) in
    joined.joined w v (not-false (get_or met (w - 1) false) before)
