-- Where a piece is cut: at its first line end.
use Rattle.std.proofs.Common.{◌≡◌, ℕ, suc, ◌+◌, ◌-◌, ◌<◌, ◌≤◌, false, List, [], ◌∷◌, ◌++◌, length, take, drop, get_or, slice_range, Option, None, Some, refl, sym, ap, ◌∙◌, arith, append_assoc, take-append-drop, length-take, drop-drop, subst, ap₂, ◌||◌}
use Rattle.std.specs.List.{list_any}
use Rattle.std.proofs.lemmas.List.{drop_more, get_or-take, drop-take}
use Rattle.std.proofs.lemmas.List.Folds.{list_any-append}
use Rattle.std.proofs.lemmas.Bool.{eqb-true, false_from_ne_true}
use Rattle.memchr.specs.Find.{IsFirstByte}
use Rattle.pop_edge.specs.Lines.{is_end}
use Rattle.pop_edge.specs.Splitting.{Moves}

-- no byte of these ends a line
pub no_end : (bytes : List ℕ) → ((k : ℕ) → k < length bytes → is_end (get_or bytes k 0) ≡ false)
    → list_any is_end bytes ≡ false
no_end [] h = refl
no_end (b ∷ bytes) h =
    let here : is_end b ≡ false = h 0 (omega arith) in
    let rest : list_any is_end bytes ≡ false = no_end bytes (λ k l. h (suc k) (omega arith)) in
    rw (here, rest) refl

-- the first line end stands at n
pub moves_some : (old bytes : List ℕ) (n : ℕ) → IsFirstByte is_end bytes (Some n)
    → Moves old (old ++ take n bytes) bytes (Some (n + 1))
moves_some old bytes n first =
    let within : n < length bytes = first.0.high in
    let before = first.0.before in
    let here : get_or bytes n 0 ≡ 10 = eqb-true (get_or bytes n 0) 10 first.1 in
    let size : length (take n bytes) ≡ n = rw length-take (omega arith) in
    let front : list_any is_end (take n bytes) ≡ false =
    no_end (take n bytes)
    (λ k l. let lt : k < n = omega arith in
    ap is_end (get_or-take n bytes k 0 lt)
    ∙ false_from_ne_true (is_end (get_or bytes k 0)) (before k (omega arith) lt)) in (
      take n bytes,
      front,
      sym (take-append-drop n bytes)
          ∙ ap (λ xs. take n bytes ++ xs) (drop_more bytes n 0 within ∙ ap (λ x. x ∷ drop (n + 1) bytes) here),
      omega arith,
      omega (arith, size),
      refl,
    )

-- no line end stands anywhere
pub moves_none : (old bytes : List ℕ) → IsFirstByte is_end bytes None → Moves old (old ++ bytes) bytes None
moves_none old bytes nowhere =
    (no_end bytes (λ k l. false_from_ne_true (is_end (get_or bytes k 0)) (nowhere k (omega arith) l)), refl)

-- what is left of a range, behind its first n elements
range_behind : (piece : List ℕ) (at end n : ℕ) → n ≤ end - at
    → drop n (slice_range piece at end) ≡ slice_range piece (at + n) end
range_behind piece at end n h =
    let m : ℕ = end - at - n in
    let sum : n + m ≡ end - at = omega arith in
    let same : m ≡ end - (at + n) = omega arith in
    ap (λ k. drop n (take k (drop at piece))) (sym sum) ∙ drop-take n m (drop at piece)
    ∙ ap (take m) (drop-drop n at piece) ∙ ap (λ k. take k (drop (at + n) piece)) same

-- the line that a move closed, and what is behind it
pub cuts : (old moved begun line bytes piece piece' : List ℕ) (at at' end end' n : ℕ) (o : Option ℕ) → o ≡ Some n
    → Moves old moved (slice_range bytes at end) o
    → bytes ≡ piece → list_any is_end old ≡ false → line ≡ moved → begun ≡ [] → piece' ≡ piece → at' ≡ at + n
    → end' ≡ end
    → (old ++ slice_range piece at end ≡ line ++ 10 ∷ (begun ++ slice_range piece' at' end'))
    × (list_any is_end line ≡ false)
cuts old moved begun line bytes piece piece' at at' end end' n o is moves same clear e1 e2 e3 e4 e5 =
    let m : Moves old moved (slice_range bytes at end) (Some n) =
    subst (λ x. Moves old moved (slice_range bytes at end) x) is moves in
    let range : List ℕ = slice_range bytes at end in
    let within : n ≤ end - at = omega (arith, m.3, length-take (end - at) (drop at bytes)) in
    let behind : drop n range ≡ begun ++ slice_range piece' at' end' =
    range_behind bytes at end n within ∙ ap (λ xs. slice_range xs (at + n) end) same ∙ rw (e2, e3, e4, e5) refl in
    let whole : old ++ slice_range piece at end ≡ line ++ 10 ∷ (begun ++ slice_range piece' at' end') =
    ap (λ xs. old ++ slice_range xs at end) (sym same) ∙ ap (λ xs. old ++ xs) m.2
    ∙ sym (append_assoc old m.0 (10 ∷ drop n range))
    ∙ ap₂ (λ xs ys. xs ++ 10 ∷ ys) (sym m.5 ∙ sym e1) behind in
    let none : list_any is_end line ≡ false = ap (list_any is_end) (e1 ∙ m.5) ∙ list_any-append is_end old m.0
    ∙ ap₂ (λ x y. x || y) clear m.1 in
    (whole, none)
