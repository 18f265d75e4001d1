-- An edge is found by its place among those at a vertex, in one pass over all edges.
-- Each vertex counts down from its place while the edges that stand there come by, and keeps the one at which it counts
-- down from 1. Before that the count is greater, and behind it 0.
use Rattle.std.proofs.Common.{◌≡◌, inl, inr, ℕ, ◌+◌, ◌-◌, ◌<◌, ◌≤◌, Bool, true, false, cond, nat_eq, List, [], ◌∷◌, ◌++◌, length, map, get_or, set, refl, sym, ap, ◌∙◌, subst, arith, append-nil, length-append}
use Rattle.std.specs.Prelude.{All}
use Rattle.std.proofs.lemmas.Bool.{cases_eq, cases_lt, eq-eqb, ne_eqb}
use Rattle.std.proofs.lemmas.List.{length-set, get_or-set_same, get_or-set_other, get_or_append_left, take_all}
use Rattle.pop_rows.proofs.Puts.{put_into, put_into-append}
use Rattle.graph_read.specs.declared.edge.Edge.{Edge}
use Rattle.graph_read.specs.Graphs.{GraphOf, IsEdge}
use Rattle.graph_read.specs.Incidence.{StandAtPlaces, is_loop, edges_at, put_number}
use Rattle.graph_read.proofs.IncidenceLemmas.{numbers_by}
use Rattle.graph_read.proofs.IncidenceRows.{IsEdgeAt, Puts, ends_from, first_ends, loop_more, row_stands, row_there, two_more}

-- what is left to count in each of n rows, and what was kept there, once these numbers came
pub record Picks (n : ℕ) (ps : Puts) (places left picked : List ℕ) : Type 0 where
  pub left_size : length left ≡ n
  pub picked_size : length picked ≡ n
  pub left_is : (k : ℕ) → k < n → get_or left k 0 ≡ get_or places k 0 - length (put_into k ps)
  pub picked_is : (k x : ℕ) → k < n → get_or places k 0 ≡ x + 1 → x < length (put_into k ps)
      → get_or picked k 0 ≡ get_or (put_into k ps) x 0

-- nothing came
pub picks_none : (n : ℕ) (places picked : List ℕ) → length places ≡ n → length picked ≡ n
    → Picks n [] places places picked
picks_none n places picked size size' =
    record {
      left_size = size;
      picked_size = size';
      left_is = λ k below. omega arith;
      picked_is = λ k x below place within. absurd (omega (arith, within));
    }

-- what is kept where a number comes into row v: this, where it is the one that is asked for
abbrev keep : List ℕ → List ℕ → ℕ → ℕ → List ℕ
keep left picked v i = cond (nat_eq (get_or left v 0) 1) (set picked v i) picked

-- a number that comes into a row stands behind those that came before it
comes : (v i : ℕ) (ps : Puts) → put_into v (ps ++ (v, i) ∷ []) ≡ put_into v ps ++ i ∷ []
comes v i ps =
    put_into-append v ps ((v, i) ∷ [])
    ∙ ap (λ b. put_into v ps ++ map (λ (p : ℕ × ℕ). p.1) (cond b ((v, i) ∷ []) [])) (eq-eqb v v refl)

-- another row gets nothing
comes_elsewhere : (v k i : ℕ) (ps : Puts) → (v ≡ k → ⊥) → put_into k (ps ++ (v, i) ∷ []) ≡ put_into k ps
comes_elsewhere v k i ps other =
    put_into-append k ps ((v, i) ∷ [])
    ∙ ap (λ b. put_into k ps ++ map (λ (p : ℕ × ℕ). p.1) (cond b ((v, i) ∷ []) [])) (ne_eqb v k other)
    ∙ append-nil (put_into k ps)

-- the member behind all others
last_is : (xs : List ℕ) (i : ℕ) → get_or (xs ++ i ∷ []) (length xs) 0 ≡ i
last_is [] i = refl
last_is (x ∷ xs) i = last_is xs i

module _ (n v i : ℕ) (ps : Puts) (places left picked : List ℕ) (below : v < n) (p : Picks n ps places left picked) where
  -- a number more came into row v
  more : length (put_into v (ps ++ (v, i) ∷ [])) ≡ length (put_into v ps) + 1
  more = ap length (comes v i ps) ∙ length-append (put_into v ps) (i ∷ [])

  -- so one less is left there
  left_more : (k : ℕ) → k < n → get_or (set left v (get_or left v 0 - 1)) k 0
      ≡ get_or places k 0 - length (put_into k (ps ++ (v, i) ∷ []))
  left_more k k_below = elim (cases_eq v k) [
    | inl same ↦
        let size = p.left_size in
        let here = get_or-set_same left v (get_or left v 0 - 1) 0 (omega (arith, size, below)) in
        let old = p.left_is v below in
        subst (λ u. get_or (set left v (get_or left v 0 - 1)) u 0
        ≡ get_or places u 0 - length (put_into u (ps ++ (v, i) ∷ []))) same
        (here ∙ omega (arith, old, more))
    | inr other ↦
        get_or-set_other left v k (get_or left v 0 - 1) 0 (λ same. other (sym same)) ∙ p.left_is k k_below
        ∙ sym (ap (λ xs. get_or places k 0 - length xs) (comes_elsewhere v k i ps other))
  ]

  -- another row keeps what it has
  kept_other : (k : ℕ) → (v ≡ k → ⊥) → (b : Bool) → get_or (cond b (set picked v i) picked) k 0 ≡ get_or picked k 0
  kept_other k other true = get_or-set_other picked v k i 0 (λ same. other (sym same))
  kept_other k other false = refl

  -- row v keeps the number at its place
  kept_here : (x : ℕ) → get_or places v 0 ≡ x + 1 → x < length (put_into v ps) + 1
      → get_or (keep left picked v i) v 0 ≡ get_or (put_into v ps ++ i ∷ []) x 0
  kept_here x place within = elim (cases_lt x (length (put_into v ps))) [
    | inl less ↦
        let old = p.left_is v below in
        let none : nat_eq (get_or left v 0) 1 ≡ false =
        ne_eqb (get_or left v 0) 1 (λ one. absurd (omega (arith, old, place, one, less))) in
        ap (λ b. get_or (cond b (set picked v i) picked) v 0) none ∙ p.picked_is v x below place less
        ∙ sym (get_or_append_left (put_into v ps) (i ∷ []) 0 x less)
    | inr far ↦
        let old = p.left_is v below in
        let size = p.picked_size in
        let at : x ≡ length (put_into v ps) = omega (arith, far, within) in
        let one : nat_eq (get_or left v 0) 1 ≡ true =
        eq-eqb (get_or left v 0) 1 (omega (arith, old, place, at)) in
        ap (λ b. get_or (cond b (set picked v i) picked) v 0) one
        ∙ get_or-set_same picked v i 0 (omega (arith, size, below))
        ∙ sym (ap (λ y. get_or (put_into v ps ++ i ∷ []) y 0) at ∙ last_is (put_into v ps) i)
  ]

  -- what was kept has the number that came, or had its own
  picked_more : (k x : ℕ) → k < n → get_or places k 0 ≡ x + 1 → x < length (put_into k (ps ++ (v, i) ∷ []))
      → get_or (keep left picked v i) k 0 ≡ get_or (put_into k (ps ++ (v, i) ∷ [])) x 0
  picked_more k x k_below place within = elim (cases_eq v k) [
    | inl same ↦
        subst (λ u. get_or (keep left picked v i) u 0 ≡ get_or (put_into u (ps ++ (v, i) ∷ [])) x 0) same
        (kept_here x (ap (λ u. get_or places u 0) same ∙ place)
        (subst (λ m. x < m) more (subst (λ u. x < length (put_into u (ps ++ (v, i) ∷ []))) (sym same) within))
        ∙ sym (ap (λ xs. get_or xs x 0) (comes v i ps)))
    | inr other ↦
        let still = comes_elsewhere v k i ps other in
        kept_other k other (nat_eq (get_or left v 0) 1)
        ∙ p.picked_is k x k_below place (subst (λ xs. x < length xs) still within)
        ∙ sym (ap (λ xs. get_or xs x 0) still)
  ]

  -- as many rows are left
  size_more : (b : Bool) → length (cond b (set picked v i) picked) ≡ n
  size_more true = length-set picked v i ∙ p.picked_size
  size_more false = p.picked_size

  -- a number more came
  picks_more : Picks n (ps ++ (v, i) ∷ []) places (set left v (get_or left v 0 - 1)) (keep left picked v i)
  picks_more = record {
    left_size = length-set left v (get_or left v 0 - 1) ∙ p.left_size;
    picked_size = size_more (nat_eq (get_or left v 0) 1);
    left_is = left_more;
    picked_is = picked_more;
  }

-- the numbers that the first i edges put into rows came
abbrev pub PicksEdges : GraphOf → ℕ → List ℕ → List ℕ → List ℕ → Type 0
PicksEdges g i places left picked = Picks g.vertices (first_ends put_number g i) places left picked

-- a number that came, by what a row counts and keeps
pub picks_at : (n v i : ℕ) (ps : Puts) (places left picked left' picked' : List ℕ) → v < n
    → Picks n ps places left picked → left' ≡ set left v (get_or left v 0 - 1)
    → picked' ≡ cond (nat_eq (get_or left v 0) 1) (set picked v i) picked
    → Picks n (ps ++ (v, i) ∷ []) places left' picked'
picks_at n v i ps places left picked left' picked' below p left_is picked_is =
    subst (λ ls. Picks n (ps ++ (v, i) ∷ []) places ls picked') (sym left_is)
    (subst (Picks n (ps ++ (v, i) ∷ []) places (set left v (get_or left v 0 - 1))) (sym picked_is)
    (picks_more n v i ps places left picked below p))

-- both ends of an edge came
pub picks_both : (g : GraphOf) (i : ℕ) (e : Edge) (places left picked : List ℕ) → IsEdgeAt g i e → is_loop e ≡ false
    → Picks g.vertices ((first_ends put_number g i ++ (e.u - 1, i) ∷ []) ++ (e.v - 1, i) ∷ []) places left picked
    → PicksEdges g (i + 1) places left picked
picks_both g i e places left picked at apart p =
    subst (λ ps. Picks g.vertices ps places left picked) (two_more put_number g i e at apart) p

-- a loop puts nothing
pub picks_loop : (g : GraphOf) (i : ℕ) (e : Edge) (places left picked : List ℕ) → IsEdgeAt g i e → is_loop e ≡ true
    → PicksEdges g i places left picked → PicksEdges g (i + 1) places left picked
picks_loop g i e places left picked at loop p =
    subst (λ ps. Picks g.vertices ps places left picked) (loop_more put_number g i e at loop) p

-- once all edges came, each vertex has the edge at its place
pub picks_all : (g : GraphOf) (i : ℕ) (places left picked : List ℕ) → All (IsEdge g.vertices) g.edges
    → length g.edges ≤ i → PicksEdges g i places left picked → StandAtPlaces g places picked
picks_all g i places left picked edges all p =
    record {
      count = p.picked_size;
      each = λ w x vertex place within.
          let first = vertex.first in
          let back : w - 1 + 1 ≡ w = omega (arith, first) in
          let row : put_into (w - 1) (first_ends put_number g i) ≡ edges_at g w =
          ap (λ es. put_into (w - 1) (ends_from put_number 0 es)) (take_all i g.edges all)
          ∙ row_stands put_number g (w - 1) edges ∙ numbers_by g (w - 1 + 1) ∙ ap (edges_at g) back in
          p.picked_is (w - 1) x (row_there g.vertices w vertex) place (subst (λ xs. x < length xs) (sym row) within)
          ∙ ap (λ xs. get_or xs x 0) row;
    }
