-- The number of edges at the vertices of a graph. An edge that is not a loop is at its two ends, a loop at none. So
-- over any vertices these numbers sum to at most twice the number of edges.
use Rattle.std.proofs.Common.{◌≡◌, ◌≢◌, inl, inr, ℕ, ◌+◌, ◌*◌, ◌<◌, ◌≤◌, suc, zero, Bool, true, false, cond, ◌&&◌, ◌||◌, nat_eq, List, [], ◌∷◌, length, map, filter, sum, refl, ap, arith, zero-add, ne_eqb}
use Rattle.std.specs.Prelude.{sum_by}
use Rattle.std.specs.List.{enumerate_from, range_with_len}
use Rattle.std.proofs.lemmas.Bool.{cases_eq}
use Rattle.std.proofs.lemmas.List.FromFn.{sum_by-map-range_with_len_more}
use Rattle.std.proofs.lemmas.List.Sums.{sum_by-cons, sum_by-le, sum_by-le-sum_by, sum-map}
use Rattle.graph_read.specs.declared.edge.Edge.{Edge}
use Rattle.graph_read.specs.Graphs.{GraphOf}
use Rattle.graph_read.specs.Incidence.{edges_at}
use Rattle.graph_read.proofs.IncidenceLemmas.{stands_at, at_from}

-- how many edges stand at the vertex of a variable, where vertex 1 is the root
abbrev pub degree : GraphOf → ℕ → ℕ
degree g v = length (edges_at g (v + 2))

-- how many stand at those of the first variables
abbrev pub degrees_below : GraphOf → ℕ → ℕ
degrees_below g n = sum (map (degree g) (range_with_len 0 n))

-- with a variable more
pub degrees_more : (g : GraphOf) (n : ℕ) → degrees_below g (n + 1) ≡ degrees_below g n + degree g n
degrees_more g n = sum_by-map-range_with_len_more (λ (d : ℕ). d) (degree g) 0 n n (zero-add n)

-- 1 where a bit is set
abbrev one_if : Bool → ℕ
one_if b = cond b 1 0

-- it is at most 1
one_if_le : (b : Bool) → one_if b ≤ 1
one_if_le true = omega arith
one_if_le false = omega arith

-- the sum of sums
sum_of_sums : (f g : ℕ → ℕ) (xs : List ℕ) → sum_by (λ x. f x + g x) xs ≡ sum_by f xs + sum_by g xs
sum_of_sums f g [] = refl
sum_of_sums f g (x ∷ xs) =
    omega (
      arith,
      sum_by-cons (λ y. f y + g y) x xs,
      sum_by-cons f x xs,
      sum_by-cons g x xs,
      sum_of_sums f g xs,
    )

-- 1 at the vertex u
abbrev hit : ℕ → ℕ → ℕ
hit u v = one_if (nat_eq u (v + 2))

-- 0 at any other
hit_other : (u v : ℕ) → u ≢ v + 2 → hit u v ≡ 0
hit_other u v other = ap one_if (ne_eqb u (v + 2) other)

-- a vertex is none behind it
hits_behind : (u a n : ℕ) → u < a + 2 → sum_by (hit u) (range_with_len a n) ≤ 0
hits_behind u a zero before = omega arith
hits_behind u a (suc n) before =
    omega (
      arith,
      sum_by-cons (hit u) a (range_with_len (a + 1) n),
      hit_other u a (λ same. omega (arith, same, before)),
      hits_behind u (a + 1) n (omega (arith, before)),
    )

-- a vertex is at most one of those that follow each other
hits_few : (u a n : ℕ) → sum_by (hit u) (range_with_len a n) ≤ 1
hits_few u a zero = omega arith
hits_few u a (suc n) = elim (cases_eq u (a + 2)) [
  | inl same ↦
      omega (
        arith,
        sum_by-cons (hit u) a (range_with_len (a + 1) n),
        one_if_le (nat_eq u (a + 2)),
        hits_behind u (a + 1) n (omega (arith, same)),
      )
  | inr other ↦
      omega (
        arith,
        sum_by-cons (hit u) a (range_with_len (a + 1) n),
        hit_other u a other,
        hits_few u (a + 1) n,
      )
]

-- 1 at a vertex where the edge stands
abbrev stands : Edge → ℕ → ℕ
stands e v = one_if (stands_at e (v + 2))

-- which is one of its ends
stands_at_ends : (s t b : Bool) → one_if ((s || t) && b) ≤ one_if s + one_if t
stands_at_ends true t b = omega (arith, one_if_le b)
stands_at_ends false true b = omega (arith, one_if_le b)
stands_at_ends false false b = omega arith

-- an edge stands at two vertices at most
stands_few : (e : Edge) (n : ℕ) → sum_by (stands e) (range_with_len 0 n) ≤ 2
stands_few e n =
    let range = range_with_len 0 n in
    omega (
      arith,
      sum_by-le-sum_by (stands e) (λ v. hit e.u v + hit e.v v) range
          (λ v. stands_at_ends (nat_eq e.u (v + 2)) (nat_eq e.v (v + 2)) _),
      sum_of_sums (hit e.u) (hit e.v) range,
      hits_few e.u 0 n,
      hits_few e.v 0 n,
    )

-- how many of these edges, of which the first has the number k, stand at the vertex of a variable
abbrev degree_from : ℕ → List Edge → ℕ → ℕ
degree_from k es v = length (at_from (v + 2) k es)

-- the first of them, and the others
degree_from-cons : (k : ℕ) (e : Edge) (es : List Edge) (v : ℕ)
    → degree_from k (e ∷ es) v ≤ stands e v + degree_from (k + 1) es v
degree_from-cons k e es v = by (stands_at e (v + 2))
  where
    by : (b : Bool)
        → length (map (λ p. p.0) (cond {A = List (ℕ × Edge)} b
        ((k, e) ∷ filter (λ p. stands_at p.1 (v + 2)) (enumerate_from (k + 1) es))
        (filter (λ p. stands_at p.1 (v + 2)) (enumerate_from (k + 1) es))))
        ≤ one_if b + degree_from (k + 1) es v
    by true = omega arith
    by false = omega arith

-- twice as many as there are edges
degrees_from_few : (k n : ℕ) (es : List Edge) → sum_by (degree_from k es) (range_with_len 0 n) ≤ 2 * length es
degrees_from_few k n [] =
    omega (arith, sum_by-le (degree_from k []) 0 (range_with_len 0 n) (λ i d within. omega arith))
degrees_from_few k n (e ∷ es) =
    let range = range_with_len 0 n in
    omega (
      arith,
      sum_by-le-sum_by (degree_from k (e ∷ es)) (λ v. stands e v + degree_from (k + 1) es v) range
          (degree_from-cons k e es),
      sum_of_sums (stands e) (degree_from (k + 1) es) range,
      stands_few e n,
      degrees_from_few (k + 1) n es,
    )

-- at most twice as many edges stand at the vertices as the graph has
pub degrees_few : (g : GraphOf) (n : ℕ) → degrees_below g n ≤ 2 * length g.edges
degrees_few g n = omega (arith, sum-map (degree g) (range_with_len 0 n), degrees_from_few 0 n g.edges)
