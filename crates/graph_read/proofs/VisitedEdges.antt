-- A search comes from a vertex to the other ends of its edges.
-- The edges at the vertex that aren't loops are just those of the incidence, and a loop leads nowhere. Each leads to a
-- vertex that paths join to the root, if they join this one. So once all were taken, each other end is met.
use Rattle.std.proofs.Common.{◌≡◌, inl, inr, ℕ, suc, ◌+◌, ◌-◌, ◌<◌, ◌≤◌, Bool, true, false, cond, not, nat_eq, List, [], ◌∷◌, ◌++◌, length, map, filter, take, drop, get_or, refl, sym, ap, ◌∙◌, subst, arith, append_assoc, take-append-drop}
use Rattle.std.specs.Prelude.{All, Contains}
use Rattle.std.specs.List.{enumerate_from}
use Rattle.std.proofs.lemmas.List.{get_or_default, get_or-map, length-map}
use Rattle.std.proofs.lemmas.List.Elements.{All-nil, All-cons, All-weaker, All-get_or, Contains-push, Contains-append_left}
use Rattle.std.proofs.lemmas.Bool.{cases_Bool, cases_eq, or_cases, eqb-true, and_parts, and_from, not_from_false}
use Rattle.graph_read.specs.declared.search.Search.{Search}
use Rattle.graph_read.specs.declared.edge.Edge.{Edge}
use Rattle.graph_read.specs.Graphs.{GraphOf, IsVertex, IsEdge, IsGraph, edge_at}
use Rattle.graph_read.specs.Incidence.{is_loop, touches, other_end, edges_at, neighbours_of}
use Rattle.graph_read.specs.Paths.{IsJoined}
use Rattle.graph_read.specs.Search.{IsMet, IsSearch, Goes, HasVisited}
use Rattle.graph_read.proofs.JoinedPaths.{joined_more}
use Rattle.graph_read.proofs.IncidenceLemmas.{stands_at, at_from, at_from-append, at_from_more}

-- number i is that of an edge that stands at the vertex, among edges of which the first has the number n
record StandsIn (w n : ℕ) (es : List Edge) (i : ℕ) : Type 0 where
  low : n ≤ i
  high : i < n + length es
  stands : (e : Edge) → e ≡ get_or es (i - n) e → stands_at e w ≡ true

-- what stands among later edges stands among all
stands_later : (w n : ℕ) (x : Edge) (es : List Edge) (i : ℕ) → StandsIn w (n + 1) es i → StandsIn w n (x ∷ es) i
stands_later w n x es i s =
    record {
      low = omega (arith, s.low);
      high = omega (arith, s.high);
      stands = λ e is.
          let place : i - n ≡ suc (i - (n + 1)) = omega (arith, s.low) in
          s.stands e (is ∙ ap (λ k. get_or (x ∷ es) k e) place);
    }

-- the numbers at a vertex are those of edges that stand there
all_stand : (w n : ℕ) (es : List Edge) → All (StandsIn w n es) (at_from w n es)
all_stand w n [] = All-nil (StandsIn w n [])
all_stand w n (x ∷ es) =
    by (stands_at x w) refl (All-weaker (StandsIn w (n + 1) es) (StandsIn w n (x ∷ es))
    (λ i s. stands_later w n x es i s) (at_from w (n + 1) es) (all_stand w (n + 1) es))
  where
    by : (b : Bool) → stands_at x w ≡ b → All (StandsIn w n (x ∷ es)) (at_from w (n + 1) es)
        → All (StandsIn w n (x ∷ es)) (map (λ p. p.0) (cond {A = List (ℕ × Edge)} b
        ((n, x) ∷ filter (λ p. stands_at p.1 w) (enumerate_from (n + 1) es))
        (filter (λ p. stands_at p.1 w) (enumerate_from (n + 1) es))))
    by true h later =
        All-cons (StandsIn w n (x ∷ es)) n (at_from w (n + 1) es)
        (record {
          low = omega arith;
          high = omega arith;
          stands = λ e is.
              let place : n - n ≡ 0 = omega arith in
              let same : e ≡ x = is ∙ ap (λ k. get_or (x ∷ es) k e) place in
              ap (λ y. stands_at y w) same ∙ h;
        })
        later
    by false h later = later

-- what the incidence says of a place at a vertex
pub record IsStanding (g : GraphOf) (v i : ℕ) : Type 0 where
  pub within : i < length g.edges
  pub stands : (e : Edge) → e ≡ get_or g.edges i e → stands_at e v ≡ true

-- the number at a place of the list at a vertex is that of an edge that stands there
pub standing : (g : GraphOf) (v k : ℕ) → k < length (edges_at g v) → IsStanding g v (get_or (edges_at g v) k 0)
standing g v k h =
    let s = All-get_or (StandsIn v 0 g.edges) (edges_at g v) k 0 h (all_stand v 0 g.edges) in
    record {
      within = omega (arith, s.high);
      stands = λ e is. s.stands e (is ∙ ap (λ n. get_or g.edges n e)
          (let place : get_or (edges_at g v) k 0 ≡ get_or (edges_at g v) k 0 - 0 = omega arith in place));
    }

-- an edge that stands at a vertex is there in its incidence
edge_listed : (g : GraphOf) (v i : ℕ) (e : Edge) → i < length g.edges → e ≡ get_or g.edges i e → stands_at e v ≡ true
    → Contains (edges_at g v) i
edge_listed g v i e h is stands =
    let front : at_from v 0 (take (i + 1) g.edges) ≡ at_from v 0 (take i g.edges) ++ i ∷ [] =
    at_from_more v i g.edges e h is ∙ ap (λ b. at_from v 0 (take i g.edges) ++ cond b (i ∷ []) []) stands in
    let rest : List ℕ = at_from v (0 + length (take (i + 1) g.edges)) (drop (i + 1) g.edges) in
    let all : edges_at g v ≡ (at_from v 0 (take i g.edges) ++ i ∷ []) ++ rest =
    ap (at_from v 0) (sym (take-append-drop (i + 1) g.edges))
    ∙ at_from-append v 0 (take (i + 1) g.edges) (drop (i + 1) g.edges) ∙ ap (λ xs. xs ++ rest) front in
    subst (λ xs. Contains xs i) (sym all)
    (Contains-append_left (at_from v 0 (take i g.edges) ++ i ∷ []) rest i
    (Contains-push (at_from v 0 (take i g.edges)) i))

-- the other end of an edge is a vertex
pub other_end_vertex : (n v : ℕ) (e : Edge) → IsEdge n e → IsVertex n (other_end e v)
other_end_vertex n v e edge = by (nat_eq e.u v)
  where
    by : (b : Bool) → IsVertex n (cond b e.v e.u)
    by true = edge.to
    by false = edge.from

-- a loop leads to its own vertex
loop_end : (e : Edge) (v : ℕ) → is_loop e ≡ true → touches e v ≡ true → other_end e v ≡ v
loop_end e v loop touch = by (nat_eq e.u v) refl
  where
    same : e.u ≡ e.v
    same = eqb-true e.u e.v loop

    by : (b : Bool) → nat_eq e.u v ≡ b → cond b e.v e.u ≡ v
    by true h = sym same ∙ eqb-true e.u v h
    by false h = elim (or_cases (nat_eq e.u v) (nat_eq e.v v) touch) [
      | inl t ↦ eqb-true e.u v t
      | inr t ↦ same ∙ eqb-true e.v v t
    ]

-- a search goes on from where it came to
pub goes_on : (s t u : Search) → Goes s t → Goes t u → Goes s u
goes_on s t u a b =
    record {
      size = b.size ∙ a.size;
      kept = λ w h. b.kept w (a.kept w h);
      more = a.more ++ b.more;
      behind = b.behind ∙ ap (λ fs. fs ++ b.more) a.behind ∙ append_assoc s.found.items a.more b.more;
      count = b.count ∙ a.count;
    }

-- the search has come to the other ends of the first k edges at the vertex
pub record Visits (g : GraphOf) (v k : ℕ) (old now : Search) : Type 0 where
  pub goes : Goes old now
  pub search : (root : ℕ) → IsSearch g root old → IsSearch g root now
  pub visited : (j : ℕ) (e : Edge) → j < k → e ≡ get_or g.edges (get_or (edges_at g v) j 0) e
      → IsMet now.met.items (other_end e v)

-- an edge at the vertex, and where it leads
record Leads (g : GraphOf) (v k : ℕ) : Type 0 where
  edge : Edge
  at : edge ≡ get_or g.edges (get_or (edges_at g v) k 0) edge
  known : IsStanding g v (get_or (edges_at g v) k 0)
  end : get_or (neighbours_of g v) k 0 ≡ other_end edge v

-- at each place among those at it
leads : (g : GraphOf) (v k : ℕ) → k < length (neighbours_of g v) → Leads g v k
leads g v k h =
    let other : ℕ → ℕ = λ i. other_end (edge_at g i) v in
    let i = get_or (edges_at g v) k 0 in
    let none : Edge = record { u = 0; v = 0; weight = 0 } in
    let within : k < length (edges_at g v) = omega (arith, h, length-map (edges_at g v) other) in
    let stands = standing g v k within in
    record {
      edge = edge_at g i;
      at = get_or_default g.edges i none (edge_at g i) stands.within;
      known = stands;
      end = get_or-map other (edges_at g v) k 0 0 within;
    }

-- where the edges at a vertex lead are vertices
pub neighbour_vertex : (g : GraphOf) (v k : ℕ) → IsGraph g → k < length (neighbours_of g v)
    → IsVertex g.vertices (get_or (neighbours_of g v) k 0)
neighbour_vertex g v k graph h =
    let l = leads g v k h in
    let i = get_or (edges_at g v) k 0 in
    let edge : IsEdge g.vertices l.edge =
    subst (IsEdge g.vertices) (sym l.at)
    (All-get_or (IsEdge g.vertices) g.edges i l.edge l.known.within graph.edges_join) in
    subst (IsVertex g.vertices) (sym l.end) (other_end_vertex g.vertices v l.edge edge)

-- with an edge more
pub visits_more : (g : GraphOf) (v k : ℕ) (old now new : Search) → k < length (neighbours_of g v)
    → IsVertex g.vertices v → IsMet old.met.items v
    → Visits g v k old now → IsMet new.met.items (get_or (neighbours_of g v) k 0) → Goes now new
    → ((f : GraphOf) (root : ℕ) → IsSearch f root now → IsJoined f root (get_or (neighbours_of g v) k 0)
    → IsSearch f root new)
    → Visits g v (k + 1) old new
visits_more g v k old now new h vertex met visits here goes search =
    let l = leads g v k h in
    let e = l.edge in
    let i = get_or (edges_at g v) k 0 in
    let touch : touches e v ≡ true = (and_parts (touches e v) (not (is_loop e)) (l.known.stands e l.at)).0 in
    let has : Contains g.edges e = (i, l.known.within, sym l.at) in
    record {
      goes = goes_on old now new visits.goes goes;
      search = λ root begun.
          let so_far = visits.search root begun in
          search g root so_far (subst (IsJoined g root) (sym l.end)
          (joined_more g root v e (so_far.joined v vertex (visits.goes.kept v met)) has touch));
      visited = λ j x lt read.
          elim (cases_eq j k) [
            | inl same ↦
                (let other : x ≡ e = read ∙ ap (λ n. get_or g.edges (get_or (edges_at g v) n 0) x) same
                ∙ get_or_default g.edges i x e l.known.within ∙ sym l.at in
                subst (IsMet new.met.items) (l.end ∙ ap (λ y. other_end y v) (sym other)) here)
            | inr ne ↦ goes.kept (other_end x v) (visits.visited j x (omega (arith, lt, ne)) read)
          ];
    }

-- once all edges at the vertex were taken, each other end is met
pub visits_all : (g : GraphOf) (v k : ℕ) (old now : Search) → length (neighbours_of g v) ≤ k → IsMet old.met.items v
    → Visits g v k old now → HasVisited g now v
visits_all g v k old now all met visits e has touch =
    elim (cases_Bool (is_loop e)) [
      | inl loop ↦ subst (IsMet now.met.items) (sym (loop_end e v loop touch)) (visits.goes.kept v met)
      | inr apart ↦
          (let stands : stands_at e v ≡ true =
          and_from (touches e v) (not (is_loop e)) touch (not_from_false (is_loop e) apart) in
          let listed = edge_listed g v has.0 e has.1 (sym has.2) stands in
          let few = length-map (edges_at g v) (λ i. other_end (edge_at g i) v) in
          visits.visited listed.0 e (omega (arith, listed.1, all, few))
          (sym has.2 ∙ ap (λ n. get_or g.edges n e)
          (sym (get_or_default (edges_at g v) listed.0 0 has.0 listed.1 ∙ listed.2))))
    ]
