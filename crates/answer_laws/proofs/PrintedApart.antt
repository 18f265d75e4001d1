-- Different samples print different lines. Lines are read from the front. A literal with `-` before it differs from
-- one without. The numbers of an arrow are determined, since each ends at a space or at the line's end. The number of
-- an edge determines its place at a vertex, as each edge is there once.
use Rattle.std.proofs.Common.{inl, inr, ◌≡◌, ℕ, zero, suc, ◌+◌, ◌<◌, ◌≤◌, ◌^◌, false, not, ◌&&◌, List, [], ◌∷◌, ◌++◌, length, map, flat_map, get_or, All, codes, decimal, slice_index, refl, sym, ap, ap₂, subst, ◌∙◌, arith, append_assoc, eq-eqb, AllPairs}
use Rattle.std.specs.List.{enumerate_from}
use Rattle.std.proofs.lemmas.Bool.{cases_lt, cases_eq, false≢true}
use Rattle.std.proofs.lemmas.Fmt.{decimal_nonempty}
use Rattle.std.proofs.lemmas.List.{append_cancel_left, length-map, get_or-map, get_or_past}
use Rattle.pop_model.specs.Text.{spaced}
use Rattle.pop_model.specs.Names.{vertex_of}
use Rattle.graph_read.specs.declared.edge.Edge.{Edge}
use Rattle.graph_read.specs.Graphs.{GraphOf, IsGraph, IsVertex, edge_at}
use Rattle.graph_read.specs.Incidence.{edges_at, is_loop, listed_edges, other_end, touches}
use Rattle.graph_read.proofs.KnownEdges.{edge_known, vertex_is}
use Rattle.graph_read.proofs.Numbering.{numbered_rise}
use Rattle.graph_read.proofs.VisitedEdges.{other_end_vertex}
use Rattle.cycle_popping.proofs.TreeRows.{edge_is}
use Rattle.pop_log.specs.Decimals.{AreDigits}
use Rattle.pop_log.proofs.LogTextsLemmas.{decimal_digits, number_cut, sign, tail_same}
use Rattle.pop_print.specs.Output.{arrow_line, edge_line, literal_of, oriented_line, vertex_line}
use Rattle.answer_laws.specs.PrintedOnce.{AreBits, AssignmentsApart, OrientationsApart, TreesApart}

-- ---- arrows

-- a word before more, the end of the line and what stands behind it
regroup : (d x r : List ℕ) → ((d ++ x) ++ 10 ∷ []) ++ r ≡ d ++ ((x ++ 10 ∷ []) ++ r)
regroup d x r = ap (λ l. l ++ r) (append_assoc d x (10 ∷ [])) ∙ append_assoc d (x ++ 10 ∷ []) r

-- the line of an arrow, byte by byte, before more
arrow_bytes : (t h n : ℕ) (r : List ℕ) → arrow_line t h n ++ r
    ≡ 97 ∷ 32 ∷ (decimal t ++ 32 ∷ (decimal h ++ 32 ∷ (decimal n ++ 10 ∷ r)))
arrow_bytes t h n r =
    ap (λ (l : List ℕ). 97 ∷ 32 ∷ l)
    (regroup (decimal t) (32 ∷ (decimal h ++ 32 ∷ (decimal n ++ []))) r
    ∙ ap (λ (l : List ℕ). decimal t ++ 32 ∷ l)
    (regroup (decimal h) (32 ∷ (decimal n ++ [])) r
    ∙ ap (λ (l : List ℕ). decimal h ++ 32 ∷ l) (regroup (decimal n) [] r)))

-- numbers of 64 bits
record AreSmall (t h n : ℕ) : Type 0 where
  tail : t < 2 ^ 64
  head : h < 2 ^ 64
  number : n < 2 ^ 64

-- two arrows, and what stands behind them
record SameArrow (t h n t' h' n' : ℕ) (r r' : List ℕ) : Type 0 where
  tail : t ≡ t'
  head : h ≡ h'
  number : n ≡ n'
  rest : r ≡ r'

-- the line of an arrow is read in one way
arrow_cut : (t h n t' h' n' : ℕ) (r r' : List ℕ) → AreSmall t h n → AreSmall t' h' n'
    → arrow_line t h n ++ r ≡ arrow_line t' h' n' ++ r' → SameArrow t h n t' h' n' r r'
arrow_cut t h n t' h' n' r r' fits fits' same =
    let x : List ℕ = 32 ∷ (decimal n ++ 10 ∷ r) in
    let x' : List ℕ = 32 ∷ (decimal n' ++ 10 ∷ r') in
    let w : List ℕ = 32 ∷ (decimal h ++ x) in
    let w' : List ℕ = 32 ∷ (decimal h' ++ x') in
    let whole : 97 ∷ 32 ∷ (decimal t ++ w) ≡ 97 ∷ 32 ∷ (decimal t' ++ w') =
    sym (arrow_bytes t h n r) ∙ same ∙ arrow_bytes t' h' n' r' in
    let first = tail_same 32 32 (decimal t ++ w) (decimal t' ++ w')
    (tail_same 97 97 (32 ∷ (decimal t ++ w)) (32 ∷ (decimal t' ++ w')) whole) in
    let a = number_cut t t' w w' fits.tail fits'.tail (sign 32 (inl (omega arith))) (sign 32 (inl (omega arith))) first in
    let b = number_cut h h' x x' fits.head fits'.head (sign 32 (inl (omega arith))) (sign 32 (inl (omega arith)))
    (tail_same 32 32 (decimal h ++ x) (decimal h' ++ x') a.1) in
    let c = number_cut n n' (10 ∷ r) (10 ∷ r') fits.number fits'.number (sign 10 (inl (omega arith)))
    (sign 10 (inl (omega arith))) (tail_same 32 32 (decimal n ++ 10 ∷ r) (decimal n' ++ 10 ∷ r') b.1) in
    record { tail = a.0; head = b.0; number = c.0; rest = tail_same 10 10 r r' c.1 }

-- ---- assignments

-- digits don't begin with `-`
no_minus : (d t z : List ℕ) → AreDigits d → 0 < length d → d ++ t ≡ 45 ∷ z → ⊥
no_minus [] t z are some same = omega (arith, some)
no_minus (c ∷ d) t z are some same = let first : c ≡ 45 = cc in let low = are.0.0 in omega (arith, first, low)

-- nor does a number
number_no_minus : (m : ℕ) (t z : List ℕ) → m < 2 ^ 64 → decimal m ++ t ≡ 45 ∷ z → ⊥
number_no_minus m t z fits same =
    no_minus (decimal m) t z (decimal_digits m fits) (decimal_nonempty m fits) same

-- a literal is read in one way
literal_cut : (n a b : ℕ) (s t : List ℕ) → n + 1 < 2 ^ 64 → a < 2 → b < 2
    → literal_of n a ++ s ≡ literal_of n b ++ t → (a ≡ b) × (s ≡ t)
literal_cut n zero zero s t fits low low' same = (refl, append_cancel_left (45 ∷ decimal (n + 1)) s t same)
literal_cut n zero (suc zero) s t fits low low' same =
    absurd (number_no_minus (n + 1) t (decimal (n + 1) ++ s) fits (sym same))
literal_cut n (suc zero) zero s t fits low low' same =
    absurd (number_no_minus (n + 1) s (decimal (n + 1) ++ t) fits same)
literal_cut n (suc zero) (suc zero) s t fits low low' same = (refl, append_cancel_left (decimal (n + 1)) s t same)
literal_cut n (suc (suc a)) b s t fits low low' same = absurd (omega (arith, low))
literal_cut n zero (suc (suc b)) s t fits low low' same = absurd (omega (arith, low'))
literal_cut n (suc zero) (suc (suc b)) s t fits low low' same = absurd (omega (arith, low'))

-- the literals of variables from n on
literals_from : ℕ → List ℕ → List (List ℕ)
literals_from n x = map (λ p. literal_of p.0 p.1) (enumerate_from n x)

-- they are read in one way
literals_cut : (n : ℕ) (x y s t : List ℕ) → length x ≡ length y → n + length x < 2 ^ 64 → All (λ b. b < 2) x
    → All (λ b. b < 2) y → spaced (literals_from n x) ++ s ≡ spaced (literals_from n y) ++ t → x ≡ y
unfolding literals_from
literals_cut n [] [] s t size fits low low' same = refl
literals_cut n [] (b ∷ y) s t size fits low low' same = absurd (omega (arith, size))
literals_cut n (a ∷ x) [] s t size fits low low' same = absurd (omega (arith, size))
literals_cut n (a ∷ x) (b ∷ y) s t size fits low low' same =
    let rest : List ℕ = spaced (literals_from (n + 1) x) in
    let rest' : List ℕ = spaced (literals_from (n + 1) y) in
    let whole : 32 ∷ (literal_of n a ++ (rest ++ s)) ≡ 32 ∷ (literal_of n b ++ (rest' ++ t)) =
    sym (append_assoc (32 ∷ literal_of n a) rest s) ∙ same ∙ append_assoc (32 ∷ literal_of n b) rest' t in
    let head = literal_cut n a b (rest ++ s) (rest' ++ t) (omega (arith, fits)) (low 0 0 (omega arith))
    (low' 0 0 (omega arith))
    (tail_same 32 32 (literal_of n a ++ (rest ++ s)) (literal_of n b ++ (rest' ++ t)) whole) in
    ap₂ (λ (c : ℕ) (l : List ℕ). c ∷ l) head.0
    (literals_cut (n + 1) x y s t (omega (arith, size)) (omega (arith, fits))
    (λ k d within. low (suc k) d (omega (arith, within))) (λ k d within. low' (suc k) d (omega (arith, within))) head.1)

-- the line of an assignment: its literals before the rest
assignment_bytes : (l z r : List ℕ) → (((118 ∷ l) ++ z) ++ 10 ∷ []) ++ r ≡ 118 ∷ (l ++ ((z ++ 10 ∷ []) ++ r))
assignment_bytes l z r = ap (λ (m : List ℕ). 118 ∷ m) (regroup l z r)

-- the law of assignments
pub assignments_apart : AssignmentsApart
unfolding literals_from
assignments_apart n x y more other fits is is' same =
    let size = is.count_is in
    let size' = is'.count_is in
    let l : List ℕ = spaced (literals_from 0 x) in
    let m : List ℕ = spaced (literals_from 0 y) in
    let z : List ℕ = codes " 0" in
    let whole : 118 ∷ (l ++ ((z ++ 10 ∷ []) ++ more)) ≡ 118 ∷ (m ++ ((z ++ 10 ∷ []) ++ other)) =
    sym (assignment_bytes l z more) ∙ same ∙ assignment_bytes m z other in
    literals_cut 0 x y ((z ++ 10 ∷ []) ++ more) ((z ++ 10 ∷ []) ++ other) (omega (arith, size, size'))
    (omega (arith, size, fits)) is.bits is'.bits
    (tail_same 118 118 (l ++ ((z ++ 10 ∷ []) ++ more)) (m ++ ((z ++ 10 ∷ []) ++ other)) whole)

-- ---- orientations

-- an edge is read in one way: its value, unless it is a loop
oriented_cut : (e : Edge) (n a b : ℕ) (s t : List ℕ) → e.u < 2 ^ 64 → e.v < 2 ^ 64 → n < 2 ^ 64 → a < 2 → b < 2
    → oriented_line e n a ++ s ≡ oriented_line e n b ++ t → (is_loop e ≡ false → a ≡ b) × (s ≡ t)
oriented_cut e n zero zero s t fu fv fn low low' same = (λ plain. refl, append_cancel_left (arrow_line e.u e.v n) s t same)
oriented_cut e n (suc zero) (suc zero) s t fu fv fn low low' same =
    (λ plain. refl, append_cancel_left (arrow_line e.v e.u n) s t same)
oriented_cut e n zero (suc zero) s t fu fv fn low low' same =
    let one : SameArrow e.u e.v n e.v e.u n s t =
    arrow_cut e.u e.v n e.v e.u n s t (record { tail = fu; head = fv; number = fn })
    (record { tail = fv; head = fu; number = fn }) same in
    (λ plain. absurd (false≢true (sym plain ∙ eq-eqb e.u e.v one.tail)), one.rest)
oriented_cut e n (suc zero) zero s t fu fv fn low low' same =
    let one : SameArrow e.v e.u n e.u e.v n s t =
    arrow_cut e.v e.u n e.u e.v n s t (record { tail = fv; head = fu; number = fn })
    (record { tail = fu; head = fv; number = fn }) same in
    (λ plain. absurd (false≢true (sym plain ∙ eq-eqb e.u e.v one.head)), one.rest)
oriented_cut e n (suc (suc a)) b s t fu fv fn low low' same = absurd (omega (arith, low))
oriented_cut e n zero (suc (suc b)) s t fu fv fn low low' same = absurd (omega (arith, low'))
oriented_cut e n (suc zero) (suc (suc b)) s t fu fv fn low low' same = absurd (omega (arith, low'))

-- edges of few vertices
abbrev Few : List Edge → Type 0
Few edges = (j : ℕ) (d : Edge) → j < length edges → ((get_or edges j d).u < 2 ^ 64) × ((get_or edges j d).v < 2 ^ 64)

-- the first edge, and those behind it
by_place : (k : ℕ) (e : Edge) (edges : List Edge) (x y : List ℕ)
    → (is_loop e ≡ false → slice_index x k ≡ slice_index y k)
    → ((j : ℕ) (d : Edge) → j < length edges → is_loop (get_or edges j d) ≡ false
    → slice_index x (k + 1 + j) ≡ slice_index y (k + 1 + j))
    → (j : ℕ) (d : Edge) → j < length (e ∷ edges) → is_loop (get_or (e ∷ edges) j d) ≡ false
    → slice_index x (k + j) ≡ slice_index y (k + j)
by_place k e edges x y first later zero d within plain =
    let here : k ≡ k + 0 = omega arith in
    subst (λ (m : ℕ). slice_index x m ≡ slice_index y m) here (first plain)
by_place k e edges x y first later (suc j) d within plain =
    let next : k + 1 + j ≡ k + suc j = omega arith in
    subst (λ (m : ℕ). slice_index x m ≡ slice_index y m) next (later j d (omega (arith, within)) plain)

-- edges are read in one way, from edge k on
edges_cut : (edges : List Edge) (k : ℕ) (x y s t : List ℕ) → Few edges → k + length edges < 2 ^ 64
    → ((j : ℕ) → slice_index x j < 2) → ((j : ℕ) → slice_index y j < 2)
    → flat_map (edge_line x) (enumerate_from k edges) ++ s ≡ flat_map (edge_line y) (enumerate_from k edges) ++ t
    → (j : ℕ) (d : Edge) → j < length edges → is_loop (get_or edges j d) ≡ false
    → slice_index x (k + j) ≡ slice_index y (k + j)
edges_cut [] k x y s t few fits low low' same = λ j d within plain. absurd (omega (arith, within))
edges_cut (e ∷ edges) k x y s t few fits low low' same =
    let rest : List ℕ = flat_map (edge_line x) (enumerate_from (k + 1) edges) in
    let rest' : List ℕ = flat_map (edge_line y) (enumerate_from (k + 1) edges) in
    let whole : oriented_line e (k + 1) (slice_index x k) ++ (rest ++ s)
    ≡ oriented_line e (k + 1) (slice_index y k) ++ (rest' ++ t) =
    sym (append_assoc (oriented_line e (k + 1) (slice_index x k)) rest s) ∙ same
    ∙ append_assoc (oriented_line e (k + 1) (slice_index y k)) rest' t in
    let head = oriented_cut e (k + 1) (slice_index x k) (slice_index y k) (rest ++ s) (rest' ++ t)
    (few 0 e (omega arith)).0 (few 0 e (omega arith)).1 (omega (arith, fits)) (low k) (low' k) whole in
    by_place k e edges x y head.0
    (edges_cut edges (k + 1) x y s t (λ i c less. few (suc i) c (omega (arith, less))) (omega (arith, fits)) low low' head.1)

-- a bit, also where there is none
bit_at : (n : ℕ) (x : List ℕ) → AreBits n x → (j : ℕ) → slice_index x j < 2
bit_at n x is j = elim (cases_lt j (length x)) [
  | inl less ↦ is.bits j 0 less
  | inr past ↦ let none : slice_index x j ≡ 0 = get_or_past x j 0 past in omega (arith, none)
]

-- the law of orientations
pub orientations_apart : OrientationsApart
orientations_apart g x y more other is bits bits' same i within plain =
    let edges_fit = is.edges_fit in
    let vertices_fit = is.vertices_fit in
    let few : Few g.edges = λ j d less.
    let edge = is.edges_join j d less in
    let from = edge.from.last in
    let to = edge.to.last in
    (omega (arith, from, vertices_fit), omega (arith, to, vertices_fit)) in
    let none : Edge = record { u = 0; v = 0; weight = 0 } in
    let at = edges_cut g.edges 0 x y more other few (omega (arith, edges_fit)) (bit_at (length g.edges) x bits)
    (bit_at (length g.edges) y bits') same i none within plain in
    let zero_more : 0 + i ≡ i = omega arith in
    subst (λ (m : ℕ). slice_index x m ≡ slice_index y m) zero_more at

-- ---- trees

-- numbers that rise tell their places
pub same_place : (xs : List ℕ) → AllPairs (λ x y. x < y) xs → (i j : ℕ) → i < length xs → j < length xs
    → get_or xs i 0 ≡ get_or xs j 0 → i ≡ j
same_place xs rise i j within within' same = elim (cases_eq i j) [
  | inl is ↦ is
  | inr other ↦ elim (cases_lt i j) [
    | inl less ↦ let up = rise i j 0 less within' in absurd (omega (arith, up, same))
    | inr past ↦ let up = rise j i 0 (omega (arith, past, other)) within in absurd (omega (arith, up, same))
  ]
]

-- so does the number of an edge at a vertex, where each stands once
edges_rise : (g : GraphOf) (w : ℕ) → AllPairs (λ x y. x < y) (edges_at g w)
edges_rise g w a b c less within =
    let d : ℕ × Edge = (0, record { u = 0; v = 0; weight = 0 }) in
    let size = length-map (listed_edges g w) (λ (p : ℕ × Edge). p.0) in
    let up = numbered_rise (λ e. touches e w && not (is_loop e)) g.edges a b d less (omega (arith, within, size)) in
    let at_a = get_or-map (λ (p : ℕ × Edge). p.0) (listed_edges g w) a d c (omega (arith, less, within, size)) in
    let at_b = get_or-map (λ (p : ℕ × Edge). p.0) (listed_edges g w) b d c (omega (arith, within, size)) in
    omega (arith, up, at_a, at_b)

module _ (g : GraphOf) (root : ℕ) (is : IsGraph g) (root_is : IsVertex g.vertices root) where
  -- places at the vertices of the variables from k on
  abbrev Placed : ℕ → List ℕ → Type 0
  Placed k x = (j : ℕ) → j < length x → slice_index x j < length (edges_at g (vertex_of root (k + j)))

  -- an arrow at such a place has small numbers
  small_arrow : (v x : ℕ) → v + 1 < g.vertices → x < length (edges_at g (vertex_of root v))
      → AreSmall (vertex_of root v) (other_end (edge_at g (slice_index (edges_at g (vertex_of root v)) x)) (vertex_of root v))
      (slice_index (edges_at g (vertex_of root v)) x + 1)
  small_arrow v x below within =
      let w : ℕ = vertex_of root v in
      let i : ℕ = slice_index (edges_at g w) x in
      let known = edge_known g w x 0 within in
      let vertex = vertex_is root g.vertices v root_is below in
      let last = vertex.last in
      let end = other_end_vertex g.vertices w (edge_at g i) (edge_is g i is known) in
      let far = end.last in
      let vertices_fit = is.vertices_fit in
      let edges_fit = is.edges_fit in
      record {
        tail = omega (arith, last, vertices_fit);
        head = omega (arith, far, vertices_fit);
        number = omega (arith, known, edges_fit);
      }

  -- slots are read in one way, from those of variable k on
  slots_cut : (k : ℕ) (x y s t : List ℕ) → length x ≡ length y → k + length x + 1 ≤ g.vertices → Placed k x → Placed k y
      → flat_map (vertex_line g root) (enumerate_from k x) ++ s ≡ flat_map (vertex_line g root) (enumerate_from k y) ++ t
      → x ≡ y
  slots_cut k [] [] s t size few at at' same = refl
  slots_cut k [] (b ∷ y) s t size few at at' same = absurd (omega (arith, size))
  slots_cut k (a ∷ x) [] s t size few at at' same = absurd (omega (arith, size))
  slots_cut k (a ∷ x) (b ∷ y) s t size few at at' same =
      let w : ℕ = vertex_of root k in
      let i : ℕ = slice_index (edges_at g w) a in
      let j : ℕ = slice_index (edges_at g w) b in
      let rest : List ℕ = flat_map (vertex_line g root) (enumerate_from (k + 1) x) ++ s in
      let rest' : List ℕ = flat_map (vertex_line g root) (enumerate_from (k + 1) y) ++ t in
      let here : k + 0 ≡ k = omega arith in
      let low : a < length (edges_at g w) =
      subst (λ (v : ℕ). a < length (edges_at g (vertex_of root v))) here (at 0 (omega arith)) in
      let low' : b < length (edges_at g w) =
      subst (λ (v : ℕ). b < length (edges_at g (vertex_of root v))) here (at' 0 (omega arith)) in
      let whole : vertex_line g root (k, a) ++ rest ≡ vertex_line g root (k, b) ++ rest' =
      sym (append_assoc (vertex_line g root (k, a)) (flat_map (vertex_line g root) (enumerate_from (k + 1) x)) s)
      ∙ same ∙ append_assoc (vertex_line g root (k, b)) (flat_map (vertex_line g root) (enumerate_from (k + 1) y)) t in
      let one : SameArrow w (other_end (edge_at g i) w) (i + 1) w (other_end (edge_at g j) w) (j + 1) rest rest' =
      arrow_cut w (other_end (edge_at g i) w) (i + 1) w (other_end (edge_at g j) w) (j + 1) rest rest'
      (small_arrow k a (omega (arith, few)) low) (small_arrow k b (omega (arith, few)) low') whole in
      let number = one.number in
      let next : (m : ℕ) → k + suc m ≡ k + 1 + m = λ m. omega arith in
      ap₂ (λ (c : ℕ) (l : List ℕ). c ∷ l) (same_place (edges_at g w) (edges_rise g w) a b low low' (omega (arith, number)))
      (slots_cut (k + 1) x y s t (omega (arith, size)) (omega (arith, few))
      (λ m less. subst (λ (v : ℕ). slice_index x m < length (edges_at g (vertex_of root v))) (next m)
      (at (suc m) (omega (arith, less))))
      (λ m less. subst (λ (v : ℕ). slice_index y m < length (edges_at g (vertex_of root v))) (next m)
      (at' (suc m) (omega (arith, less)))) one.rest)

-- the law of trees
pub trees_apart : TreesApart
trees_apart g root x y more other is root_is leads leads' same =
    let zero_more : (v : ℕ) → v ≡ 0 + v = λ v. omega arith in
    let count = leads.count in
    let count' = leads'.count in
    let some = root_is.first in
    let last = root_is.last in
    slots_cut g root is root_is 0 x y more other (omega (arith, count, count')) (omega (arith, count, some, last))
    (λ v below. subst (λ (u : ℕ). slice_index x v < length (edges_at g (vertex_of root u))) (zero_more v) (leads.places v below))
    (λ v below. subst (λ (u : ℕ). slice_index y v < length (edges_at g (vertex_of root u))) (zero_more v) (leads'.places v below))
    same
