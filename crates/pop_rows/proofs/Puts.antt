-- Numbers that come into rows, one after another: a list of pairs of a row and a number. A pass over the list counts
-- how many come into each row. With these rooms a second pass finds room for each of them, and leaves in each row what
-- came into it, in order.
use Rattle.std.proofs.Common.{inl, inr, ◌≡◌, ◌≢◌, ℕ, ◌+◌, ◌<◌, ◌≤◌, cond, ◌==◌, List, [], ◌∷◌, ◌++◌, length, map, filter, set, get_or, replicate, refl, sym, ap, subst, ◌∙◌, arith, length-append, eq-eqb, ne_eqb}
use Rattle.std.proofs.lemmas.Bool.{cases_eq}
use Rattle.std.proofs.lemmas.List.{append-nil, map-append, length-map, length-set, length-replicate, get_or-replicate, get_or-set_same, get_or-set_other}
use Rattle.std.proofs.lemmas.List.Elements.{filter-append}
use Rattle.std.proofs.lemmas.List.Sums.{length-filter, count_by-le-length}
use Rattle.pop_rows.specs.FlatRows.{RoomyRows, row_at, push_at, HasRoom}

-- what comes into a row, in order
abbrev pub put_into : ℕ → List (ℕ × ℕ) → List ℕ
put_into v puts = map (λ p. p.1) (filter (λ p. p.0 == v) puts)

-- one list after another
pub put_into-append : (v : ℕ) (xs ys : List (ℕ × ℕ)) → put_into v (xs ++ ys) ≡ put_into v xs ++ put_into v ys
put_into-append v xs ys =
    ap (map (λ p. p.1)) (filter-append (λ p. p.0 == v) xs ys)
    ∙ map-append (λ p. p.1) (filter (λ p. p.0 == v) xs) (filter (λ p. p.0 == v) ys)

-- a number that comes into the row
put_into_here : (v x : ℕ) → put_into v ((v, x) ∷ []) ≡ x ∷ []
put_into_here v x = ap (λ b. map (λ (p : ℕ × ℕ). p.1) (cond b ((v, x) ∷ []) [])) (eq-eqb v v refl)

-- a number that comes into another
put_into_other : (v w x : ℕ) → v ≢ w → put_into w ((v, x) ∷ []) ≡ []
put_into_other v w x other = ap (λ b. map (λ (p : ℕ × ℕ). p.1) (cond b ((v, x) ∷ []) [])) (ne_eqb v w other)

-- a number more, at the end
pub put_into_push : (v x : ℕ) (puts : List (ℕ × ℕ)) → put_into v (puts ++ (v, x) ∷ []) ≡ put_into v puts ++ x ∷ []
put_into_push v x puts =
    put_into-append v puts ((v, x) ∷ []) ∙ ap (λ ys. put_into v puts ++ ys) (put_into_here v x)

-- which no other row gets
pub put_into_push_other : (v w x : ℕ) (puts : List (ℕ × ℕ)) → v ≢ w
    → put_into w (puts ++ (v, x) ∷ []) ≡ put_into w puts
put_into_push_other v w x puts other =
    put_into-append w puts ((v, x) ∷ []) ∙ ap (λ ys. put_into w puts ++ ys) (put_into_other v w x other)
    ∙ append-nil (put_into w puts)

-- no more come into a row than come at all
length-put_into : (v : ℕ) (puts : List (ℕ × ℕ)) → length (put_into v puts) ≤ length puts
length-put_into v puts =
    omega (
      arith,
      length-map (filter (λ p. p.0 == v) puts) (λ (p : ℕ × ℕ). p.1),
      length-filter (λ (p : ℕ × ℕ). p.0 == v) puts,
      count_by-le-length (λ (p : ℕ × ℕ). p.0 == v) puts,
    )

-- ---- counting

-- each of n rows has room for just what comes into it
pub record CountPuts (n : ℕ) (puts : List (ℕ × ℕ)) (rooms : List ℕ) : Type 0 where
  pub size : length rooms ≡ n
  pub each : (v : ℕ) → v < n → get_or rooms v 0 ≡ length (put_into v puts)

-- a number more came
pub counts_more : (n v x : ℕ) (puts : List (ℕ × ℕ)) (rooms : List ℕ) → v < n → CountPuts n puts rooms
    → CountPuts n (puts ++ (v, x) ∷ []) (set rooms v (get_or rooms v 0 + 1))
counts_more n v x puts rooms below counts = record {
  size = length-set rooms v (get_or rooms v 0 + 1) ∙ counts.size;
  each = λ w w_below. elim (cases_eq v w) [
    | inl same ↦
        let size = counts.size in
        let more : length (put_into v (puts ++ (v, x) ∷ [])) ≡ length (put_into v puts) + 1 =
        ap length (put_into_push v x puts) ∙ length-append (put_into v puts) (x ∷ []) in
        subst (λ u. get_or (set rooms v (get_or rooms v 0 + 1)) u 0 ≡ length (put_into u (puts ++ (v, x) ∷ []))) same
        (get_or-set_same rooms v (get_or rooms v 0 + 1) 0 (omega (arith, size)) ∙ ap (λ k. k + 1) (counts.each v below)
        ∙ sym more)
    | inr other ↦
        get_or-set_other rooms v w (get_or rooms v 0 + 1) 0 (λ same. other (sym same)) ∙ counts.each w w_below
        ∙ sym (ap length (put_into_push_other v w x puts other))
  ];
}

-- a count is at most the number of those that came
pub count_fits : (n v : ℕ) (puts : List (ℕ × ℕ)) (rooms : List ℕ) → v < n → CountPuts n puts rooms
    → get_or rooms v 0 ≤ length puts
count_fits n v puts rooms below counts =
    let count = counts.each v below in
    omega (arith, count, length-put_into v puts)

-- ---- pushing

-- a number is pushed at the end of a row
pub pushed_here : (v x : ℕ) (rows : List (List ℕ)) → v < length rows
    → row_at (push_at rows v x) v ≡ row_at rows v ++ x ∷ []
pushed_here v x rows below = get_or-set_same rows v (row_at rows v ++ x ∷ []) [] below

-- and every other row stays
pub pushed_elsewhere : (v w x : ℕ) (rows : List (List ℕ)) → v ≢ w → row_at (push_at rows v x) w ≡ row_at rows w
pushed_elsewhere v w x rows other =
    get_or-set_other rows v w (row_at rows v ++ x ∷ []) [] (λ same. other (sym same))

-- there is room for the number that comes next into a row, if the row has what came into it before
pub has_room_for_next : (n v x : ℕ) (puts rest : List (ℕ × ℕ)) (f : RoomyRows) → v < n
    → CountPuts n (puts ++ (v, x) ∷ rest) f.rooms → row_at f.rows v ≡ put_into v puts → HasRoom f v
has_room_for_next n v x puts rest f below counts holds =
    let room = counts.each v below in
    let row = ap length holds in
    let all : put_into v (puts ++ (v, x) ∷ rest) ≡ put_into v puts ++ (put_into v ((v, x) ∷ []) ++ put_into v rest) =
    put_into-append v puts ((v, x) ∷ rest)
    ∙ ap (λ ys. put_into v puts ++ ys) (put_into-append v ((v, x) ∷ []) rest) in
    let one = ap length (put_into_here v x) in
    let sizes : length (put_into v (puts ++ (v, x) ∷ rest))
    ≡ length (put_into v puts) + (length (put_into v ((v, x) ∷ [])) + length (put_into v rest)) =
    ap length all ∙ length-append (put_into v puts) (put_into v ((v, x) ∷ []) ++ put_into v rest)
    ∙ ap (λ k. length (put_into v puts) + k) (length-append (put_into v ((v, x) ∷ [])) (put_into v rest)) in
    omega (arith, room, row, one, sizes)
