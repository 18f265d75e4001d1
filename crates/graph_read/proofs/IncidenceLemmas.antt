-- The edges at a vertex, as the edges of a graph come one by one.
use Rattle.std.proofs.Common.{◌≡◌, ℕ, ◌+◌, ◌-◌, ◌<◌, Bool, true, false, cond, not, ◌&&◌, List, [], ◌∷◌, ◌++◌, length, map, filter, take, get_or, refl, sym, ap, ap₂, ◌∙◌, arith}
use Rattle.std.specs.List.{enumerate_from}
use Rattle.std.proofs.lemmas.List.{map-append, map-id, take_more, length-take-le}
use Rattle.std.proofs.lemmas.List.Elements.{filter-append}
use Rattle.std.proofs.lemmas.List.FromFn.{get_or-map-range_with_len, length-map-range_with_len}
use Rattle.pop_edge.proofs.JudgedLines.{enumerate-append}
use Rattle.graph_read.specs.declared.edge.Edge.{Edge}
use Rattle.graph_read.specs.Graphs.{GraphOf, IsVertex}
use Rattle.graph_read.specs.Incidence.{is_loop, touches, edges_at, Putting, put_number, row_by, rows_by, at_vertex}

-- the edge stands at the vertex: it touches it and isn't a loop
abbrev pub stands_at : Edge → ℕ → Bool
stands_at e w = touches e w && not (is_loop e)

-- the edges at a vertex among edges of which the first has the number n
abbrev pub at_from : ℕ → ℕ → List Edge → List ℕ
at_from w n es = map (λ p. p.0) (filter (λ p. stands_at p.1 w) (enumerate_from n es))

-- of edges behind one another
pub at_from-append : (w n : ℕ) (xs ys : List Edge)
    → at_from w n (xs ++ ys) ≡ at_from w n xs ++ at_from w (n + length xs) ys
at_from-append w n xs ys =
    let keeps : ℕ × Edge → Bool = λ p. stands_at p.1 w in
    let number : ℕ × Edge → ℕ = λ p. p.0 in
    ap (λ zs. map number (filter keeps zs)) (enumerate-append n xs ys)
    ∙ ap (map number) (filter-append keeps (enumerate_from n xs) (enumerate_from (n + length xs) ys))
    ∙ map-append number (filter keeps (enumerate_from n xs)) (filter keeps (enumerate_from (n + length xs) ys))

-- of one edge
pub at_from_one : (w n : ℕ) (e : Edge) → at_from w n (e ∷ []) ≡ cond (stands_at e w) (n ∷ []) []
at_from_one w n e = by (stands_at e w)
  where
    by : (b : Bool) → map (λ p. p.0) (cond {A = List (ℕ × Edge)} b ((n, e) ∷ []) []) ≡ cond b (n ∷ []) []
    by true = refl
    by false = refl

-- with an edge more
pub at_from_more : (w i : ℕ) (es : List Edge) (e : Edge) → i < length es → e ≡ get_or es i e
    → at_from w 0 (take (i + 1) es) ≡ at_from w 0 (take i es) ++ cond (stands_at e w) (i ∷ []) []
at_from_more w i es e h is =
    let size : 0 + length (take i es) ≡ i = omega (arith, length-take-le i es (omega (arith, h))) in
    ap (at_from w 0) (take_more es i e h) ∙ at_from-append w 0 (take i es) (get_or es i e ∷ [])
    ∙ ap₂ (λ n x. at_from w 0 (take i es) ++ at_from w n (x ∷ [])) size (sym is)
    ∙ ap (λ xs. at_from w 0 (take i es) ++ xs) (at_from_one w i e)

-- the row of a vertex has what the edges that stand there put into it
pub at_vertex-rows_by : (put : Putting) (g : GraphOf) (w : ℕ) → IsVertex g.vertices w
    → at_vertex (rows_by put g) w ≡ row_by put g w
at_vertex-rows_by put g w v =
    get_or-map-range_with_len (row_by put g) 1 g.vertices (w - 1) w (let none : List ℕ = [] in none)
    (omega (arith, v.first, v.last)) (omega (arith, v.first))

-- and there is a row for each vertex
pub has_row : (put : Putting) (g inside : GraphOf) (rows : List (List ℕ)) (w : ℕ) → rows ≡ rows_by put inside → inside ≡ g
    → IsVertex g.vertices w → w - 1 < length rows
has_row put g inside rows w are is v =
    omega (
      arith,
      ap length are,
      length-map-range_with_len (row_by put inside) 1 inside.vertices,
      ap (λ f. f.vertices) is,
      v.first,
      v.last,
    )

-- their numbers themselves
pub numbers_by : (g : GraphOf) (w : ℕ) → row_by put_number g w ≡ edges_at g w
numbers_by g w = map-id (edges_at g w)
