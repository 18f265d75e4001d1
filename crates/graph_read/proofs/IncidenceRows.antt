-- The edges of a graph put numbers into the rows of their ends.
-- Each edge that isn't a loop puts one into each of the rows of its two ends, which differ; a loop puts nothing. So
-- what comes into a row is what the edges that stand at its vertex put there. What comes into rows is counted and pushed
-- as in pop_rows; here it is brought from edge to edge.
use Rattle.std.proofs.Common.{◌≡◌, inl, inr, ℕ, suc, ◌+◌, ◌-◌, ◌*◌, ◌^◌, ◌<◌, ◌≤◌, Bool, true, false, cond, not, ◌&&◌, ◌||◌, nat_eq, List, [], ◌∷◌, ◌++◌, length, map, flat_map, filter, take, drop, get_or, set, refl, sym, ap, ap₂, ◌∙◌, subst, arith, append_assoc, append-nil, length-append, length-take, take-append-drop}
use Rattle.std.specs.Prelude.{All}
use Rattle.std.specs.List.{enumerate_from}
use Rattle.std.proofs.lemmas.List.{take_more, take_all, length-take-le, length-map, ext_get_or}
use Rattle.std.proofs.lemmas.List.Concat.{flat_map-append}
use Rattle.std.proofs.lemmas.List.Elements.{All-head, All-tail}
use Rattle.std.proofs.lemmas.List.FromFn.{get_or-map-range_with_len, length-map-range_with_len}
use Rattle.std.proofs.lemmas.Bool.{cases_eq, eq-eqb, ne_eqb, eqb-true, eqb-false, and_right}
use Rattle.pop_edge.proofs.JudgedLines.{enumerate-append}
use Rattle.pop_rows.proofs.Puts.{CountPuts, put_into, put_into-append, counts_more, count_fits}
use Rattle.graph_read.specs.declared.edge.Edge.{Edge}
use Rattle.graph_read.specs.Graphs.{GraphOf, IsVertex, IsEdge, edge_at}
use Rattle.graph_read.specs.Incidence.{is_loop, touches, edges_at, degrees_of, Putting, put_number, row_by}
use Rattle.graph_read.proofs.IncidenceLemmas.{stands_at, at_from}

-- numbers that are put into rows: of each the row, and the number
abbrev pub Puts : Type 0
Puts = List (ℕ × ℕ)

-- what an edge puts into rows
abbrev pub ends_at : Putting → ℕ × Edge → Puts
ends_at put p = cond (is_loop p.1) []
    ((p.1.u - 1, put p.0 p.1 p.1.u) ∷ (p.1.v - 1, put p.0 p.1 p.1.v) ∷ [])

-- what edges put into rows, of which the first has the number n
abbrev pub ends_from : Putting → ℕ → List Edge → Puts
ends_from put n es = flat_map (ends_at put) (enumerate_from n es)

-- of edges behind one another
ends_from-append : (put : Putting) (n : ℕ) (xs ys : List Edge)
    → ends_from put n (xs ++ ys) ≡ ends_from put n xs ++ ends_from put (n + length xs) ys
ends_from-append put n xs ys =
    ap (flat_map (ends_at put)) (enumerate-append n xs ys)
    ∙ flat_map-append (ends_at put) (enumerate_from n xs) (enumerate_from (n + length xs) ys)

-- edge i of a graph
pub record IsEdgeAt (g : GraphOf) (i : ℕ) (e : Edge) : Type 0 where
  pub within : i < length g.edges
  pub is : e ≡ get_or g.edges i e
  pub edge : IsEdge g.vertices e

-- the edge of a turn of a loop over the edges
pub edge_here : (g : GraphOf) (i count : ℕ) (e : Edge) → i < count → count ≡ length g.edges → e ≡ get_or g.edges i e
    → IsEdge g.vertices e → IsEdgeAt g i e
edge_here g i count e below all is joins = record { within = omega arith; is = is; edge = joins }

-- what the first i edges put into rows
abbrev pub first_ends : Putting → GraphOf → ℕ → Puts
first_ends put g i = ends_from put 0 (take i g.edges)

-- with an edge more
ends_more : (put : Putting) (g : GraphOf) (i : ℕ) (e : Edge) → IsEdgeAt g i e
    → first_ends put g (i + 1) ≡ first_ends put g i ++ ends_at put (i, e)
ends_more put g i e at =
    let size : 0 + length (take i g.edges) ≡ i =
    omega (arith, length-take-le i g.edges (omega (arith, at.within))) in
    ap (ends_from put 0) (take_more g.edges i e at.within)
    ∙ ends_from-append put 0 (take i g.edges) (get_or g.edges i e ∷ [])
    ∙ ap₂ (λ n x. first_ends put g i ++ ends_from put n (x ∷ [])) size (sym at.is)
    ∙ ap (λ ps. first_ends put g i ++ ps) (append-nil (ends_at put (i, e)))

-- what comes behind the edge
abbrev pub rest_ends : Putting → GraphOf → ℕ → Puts
rest_ends put g i = ends_from put (0 + length (take (i + 1) g.edges)) (drop (i + 1) g.edges)

-- all, cut at the edge
pub all_ends : (put : Putting) (g : GraphOf) (i : ℕ) (e : Edge) → IsEdgeAt g i e
    → ends_from put 0 g.edges ≡ (first_ends put g i ++ ends_at put (i, e)) ++ rest_ends put g i
all_ends put g i e at =
    ap (ends_from put 0) (sym (take-append-drop (i + 1) g.edges))
    ∙ ends_from-append put 0 (take (i + 1) g.edges) (drop (i + 1) g.edges)
    ∙ ap (λ ps. ps ++ rest_ends put g i) (ends_more put g i e at)

-- what an edge puts at its first end, and at its second
abbrev pub put_first : Putting → ℕ → Edge → ℕ × ℕ
put_first put i e = (e.u - 1, put i e e.u)

abbrev pub put_second : Putting → ℕ → Edge → ℕ × ℕ
put_second put i e = (e.v - 1, put i e e.v)

-- what an edge puts that isn't a loop
pub plain_ends : (put : Putting) (i : ℕ) (e : Edge) → is_loop e ≡ false
    → ends_at put (i, e) ≡ put_first put i e ∷ put_second put i e ∷ []
plain_ends put i e apart = ap (λ b. cond b [] (put_first put i e ∷ put_second put i e ∷ [])) apart

-- a loop puts none
loop_ends : (put : Putting) (i : ℕ) (e : Edge) → is_loop e ≡ true → ends_at put (i, e) ≡ []
loop_ends put i e loop = ap (λ b. cond b [] (put_first put i e ∷ put_second put i e ∷ [])) loop

-- with both ends of it one behind the other
pub two_more : (put : Putting) (g : GraphOf) (i : ℕ) (e : Edge) → IsEdgeAt g i e → is_loop e ≡ false
    → (first_ends put g i ++ put_first put i e ∷ []) ++ put_second put i e ∷ [] ≡ first_ends put g (i + 1)
two_more put g i e at apart =
    append_assoc (first_ends put g i) (put_first put i e ∷ []) (put_second put i e ∷ [])
    ∙ ap (λ ps. first_ends put g i ++ ps) (sym (plain_ends put i e apart)) ∙ sym (ends_more put g i e at)

-- ---- what comes into a row

-- two vertices have one row where they are one
same_row : (u w : ℕ) → 1 ≤ u → 1 ≤ w → nat_eq (u - 1) (w - 1) ≡ nat_eq u w
same_row u w h k =
    elim (cases_eq u w) [
      | inl e ↦ eq-eqb (u - 1) (w - 1) (omega (arith, e)) ∙ sym (eq-eqb u w e)
      | inr e ↦ ne_eqb (u - 1) (w - 1) (λ p. e (omega (arith, h, k, p))) ∙ sym (ne_eqb u w e)
    ]

-- of two puts
put_two : (a b m n k : ℕ) → put_into k ((a, m) ∷ (b, n) ∷ [])
    ≡ cond (nat_eq a k) (m ∷ cond (nat_eq b k) (n ∷ []) []) (cond (nat_eq b k) (n ∷ []) [])
put_two a b m n k = by (nat_eq a k) (nat_eq b k)
  where
    by : (s t : Bool) → map (λ (p : ℕ × ℕ). p.1) (cond s ((a, m) ∷ cond t ((b, n) ∷ []) []) (cond t ((b, n) ∷ []) []))
        ≡ cond s (m ∷ cond t (n ∷ []) []) (cond t (n ∷ []) [])
    by true true = refl
    by true false = refl
    by false true = refl
    by false false = refl

-- at most one of two comes
one_of_two : (s t : Bool) (m n x : ℕ) → (s ≡ true → t ≡ true → ⊥) → (s ≡ true → m ≡ x) → (t ≡ true → n ≡ x)
    → cond s (m ∷ cond t (n ∷ []) []) (cond t (n ∷ []) []) ≡ cond ((s || t) && true) (x ∷ []) []
one_of_two true true m n x h first second = absurd (h refl refl)
one_of_two true false m n x h first second = ap (λ y. y ∷ []) (first refl)
one_of_two false true m n x h first second = ap (λ y. y ∷ []) (second refl)
one_of_two false false m n x h first second = refl

-- an edge puts a number into the rows of the vertices where it stands
ends_stand : (put : Putting) (m n w : ℕ) (e : Edge) → IsEdge m e → 1 ≤ w
    → put_into (w - 1) (ends_at put (n, e)) ≡ cond (stands_at e w) (put n e w ∷ []) []
ends_stand put m n w e edge h = by (is_loop e) refl
  where
    apart : is_loop e ≡ false → nat_eq e.u w ≡ true → nat_eq e.v w ≡ true → ⊥
    apart ne a b = eqb-false e.u e.v ne (eqb-true e.u w a ∙ sym (eqb-true e.v w b))

    by : (b : Bool) → is_loop e ≡ b
        → put_into (w - 1) (cond b [] (put_first put n e ∷ put_second put n e ∷ []))
        ≡ cond (touches e w && not b) (put n e w ∷ []) []
    by true loop = sym (ap (λ b. cond b (put n e w ∷ []) []) (and_right (touches e w) false refl))
    by false ne =
        let first = put n e e.u in
        let second = put n e e.v in
        put_two (e.u - 1) (e.v - 1) first second (w - 1)
        ∙ ap₂ (λ s t. cond s (first ∷ cond t (second ∷ []) []) (cond t (second ∷ []) []))
        (same_row e.u w edge.from.first h) (same_row e.v w edge.to.first h)
        ∙ one_of_two (nat_eq e.u w) (nat_eq e.v w) first second (put n e w) (apart ne)
        (λ same. ap (put n e) (eqb-true e.u w same)) (λ same. ap (put n e) (eqb-true e.v w same))

-- what comes into a row is what the edges put there that stand at its vertex
put_into-ends : (put : Putting) (edge : ℕ → Edge) (m w n : ℕ) (d : Edge) (es : List Edge) → All (IsEdge m) es → 1 ≤ w
    → ((k : ℕ) → k < length es → edge (n + k) ≡ get_or es k d)
    → put_into (w - 1) (ends_from put n es) ≡ map (λ i. put i (edge i) w) (at_from w n es)
put_into-ends put edge m w n d [] all h are = refl
put_into-ends put edge m w n d (e ∷ es) all h are =
    put_into-append (w - 1) (ends_at put (n, e)) (ends_from put (n + 1) es)
    ∙ ap₂ (λ xs ys. xs ++ ys) (ends_stand put m n w e (All-head (IsEdge m) e es all) h)
    (put_into-ends put edge m w (n + 1) d es (All-tail (IsEdge m) e es all) h
    (λ k less. ap edge (let same : n + 1 + k ≡ n + (suc k) = omega arith in same)
    ∙ are (suc k) (omega (arith, less))))
    ∙ by (stands_at e w) (ap edge (let same : n ≡ n + 0 = omega arith in same) ∙ are 0 (omega arith))
  where
    number : ℕ → ℕ
    number i = put i (edge i) w

    by : (b : Bool) → edge n ≡ e → cond b (put n e w ∷ []) [] ++ map number (at_from w (n + 1) es)
        ≡ map number (map (λ p. p.0) (cond {A = List (ℕ × Edge)} b
        ((n, e) ∷ filter (λ p. stands_at p.1 w) (enumerate_from (n + 1) es))
        (filter (λ p. stands_at p.1 w) (enumerate_from (n + 1) es))))
    by true here = ap (λ x. put n x w ∷ map number (at_from w (n + 1) es)) (sym here)
    by false here = refl

-- what comes into row k is what the edges at vertex k + 1 put there
pub row_stands : (put : Putting) (g : GraphOf) (k : ℕ) → All (IsEdge g.vertices) g.edges
    → put_into k (ends_from put 0 g.edges) ≡ row_by put g (k + 1)
row_stands put g k all =
    let d : Edge = record { u = 0; v = 0; weight = 0 } in
    ap (λ n. put_into n (ends_from put 0 g.edges)) (let place : k ≡ k + 1 - 1 = omega arith in place)
    ∙ put_into-ends put (edge_at g) g.vertices (k + 1) 0 d g.edges all (omega arith)
    (λ n less. ap (λ i. get_or g.edges i d) (let same : 0 + n ≡ n = omega arith in same))

-- and as many as stand there
pub length-row_stands : (put : Putting) (g : GraphOf) (k : ℕ) → All (IsEdge g.vertices) g.edges
    → length (put_into k (ends_from put 0 g.edges)) ≡ length (edges_at g (k + 1))
length-row_stands put g k all =
    ap length (row_stands put g k all)
    ∙ length-map (edges_at g (k + 1)) (λ i. put i (edge_at g i) (k + 1))

-- ---- counting

-- the row of a vertex is there
pub row_there : (n u : ℕ) → IsVertex n u → u - 1 < n
row_there n u v = omega (arith, v.first, v.last)

-- i edges put at most 2 i numbers into rows
length-ends : (put : Putting) (n : ℕ) (es : List Edge) → length (ends_from put n es) ≤ 2 * length es
length-ends put n [] = omega arith
length-ends put n (e ∷ es) =
    omega (
      arith,
      length-append (ends_at put (n, e)) (ends_from put (n + 1) es),
      length-ends put (n + 1) es,
      by (is_loop e),
    )
  where
    by : (b : Bool) → length (cond {A = Puts} b [] (put_first put n e ∷ put_second put n e ∷ [])) ≤ 2
    by true = omega arith
    by false = omega arith

-- the count at an end of an edge that is to come is small
pub count_small : (g : GraphOf) (i u : ℕ) (ds : List ℕ) → length g.edges ≤ 2 ^ 23
    → CountPuts g.vertices (first_ends put_number g i) ds → IsVertex g.vertices u → get_or ds (u - 1) 0 ≤ 2 ^ 24
count_small g i u ds few counts v =
    omega (
      arith,
      count_fits g.vertices (u - 1) (first_ends put_number g i) ds (row_there g.vertices u v) counts,
      length-ends put_number 0 (take i g.edges),
      length-take i g.edges,
      few,
    )

-- an edge is counted at its first end
pub counts_from : (g : GraphOf) (i : ℕ) (e : Edge) (ds ds' : List ℕ) → IsEdgeAt g i e
    → CountPuts g.vertices (first_ends put_number g i) ds → ds' ≡ set ds (e.u - 1) (get_or ds (e.u - 1) 0 + 1)
    → CountPuts g.vertices (first_ends put_number g i ++ put_first put_number i e ∷ []) ds'
counts_from g i e ds ds' at counts first =
    subst (CountPuts g.vertices (first_ends put_number g i ++ put_first put_number i e ∷ [])) (sym first)
    (counts_more g.vertices (e.u - 1) i (first_ends put_number g i) ds (row_there g.vertices e.u at.edge.from) counts)

-- and the count at its second end is still small
pub count_small_still : (g : GraphOf) (i : ℕ) (e : Edge) (ds : List ℕ) → IsEdgeAt g i e → length g.edges ≤ 2 ^ 23
    → CountPuts g.vertices (first_ends put_number g i ++ put_first put_number i e ∷ []) ds → get_or ds (e.v - 1) 0 ≤ 2 ^ 24 + 1
count_small_still g i e ds at few counts =
    omega (
      arith,
      count_fits g.vertices (e.v - 1) (first_ends put_number g i ++ put_first put_number i e ∷ []) ds
          (row_there g.vertices e.v at.edge.to) counts,
      length-append (first_ends put_number g i) (put_first put_number i e ∷ []),
      length-ends put_number 0 (take i g.edges),
      length-take i g.edges,
      few,
    )

-- and at its second, so that it is counted
pub counts_to : (g : GraphOf) (i : ℕ) (e : Edge) (ds ds' : List ℕ) → IsEdgeAt g i e → is_loop e ≡ false
    → CountPuts g.vertices (first_ends put_number g i ++ put_first put_number i e ∷ []) ds
    → ds' ≡ set ds (e.v - 1) (get_or ds (e.v - 1) 0 + 1) → CountPuts g.vertices (first_ends put_number g (i + 1)) ds'
counts_to g i e ds ds' at apart counts second =
    let half = first_ends put_number g i ++ put_first put_number i e ∷ [] in
    let two : CountPuts g.vertices (half ++ put_second put_number i e ∷ []) ds' =
    subst (CountPuts g.vertices (half ++ put_second put_number i e ∷ [])) (sym second)
    (counts_more g.vertices (e.v - 1) i (first_ends put_number g i ++ put_first put_number i e ∷ []) ds
    (row_there g.vertices e.v at.edge.to) counts) in
    subst (λ ps. CountPuts g.vertices ps ds') (two_more put_number g i e at apart) two

-- a loop puts nothing
pub loop_more : (put : Putting) (g : GraphOf) (i : ℕ) (e : Edge) → IsEdgeAt g i e → is_loop e ≡ true
    → first_ends put g i ≡ first_ends put g (i + 1)
loop_more put g i e at loop =
    sym (ends_more put g i e at ∙ ap (λ ps. first_ends put g i ++ ps) (loop_ends put i e loop)
    ∙ append-nil (first_ends put g i))

-- so the counts stay behind a loop
pub counts_loop : (g : GraphOf) (i : ℕ) (e : Edge) (ds : List ℕ) → IsEdgeAt g i e → is_loop e ≡ true
    → CountPuts g.vertices (first_ends put_number g i) ds → CountPuts g.vertices (first_ends put_number g (i + 1)) ds
counts_loop g i e ds at loop counts = subst (λ ps. CountPuts g.vertices ps ds) (loop_more put_number g i e at loop) counts

-- after all edges the counts are the degrees
pub counts_all : (g : GraphOf) (i : ℕ) (ds : List ℕ) → All (IsEdge g.vertices) g.edges → length g.edges ≤ i
    → CountPuts g.vertices (first_ends put_number g i) ds → ds ≡ degrees_of g
counts_all g i ds edges all counts =
    ext_get_or 0 ds (degrees_of g)
    (counts.size ∙ sym (length-map-range_with_len (λ w. length (edges_at g w)) 1 g.vertices))
    (λ k below.
    let here : k < g.vertices = omega (arith, below, counts.size) in
    counts.each k here ∙ ap (λ es. length (put_into k (ends_from put_number 0 es))) (take_all i g.edges all)
    ∙ length-row_stands put_number g k edges
    ∙ sym (get_or-map-range_with_len (λ w. length (edges_at g w)) 1 g.vertices k (k + 1) 0 here (omega arith)))
