-- Lines behind one another, and the lines of bytes that were cut at line ends.
-- A line with its end at the front of bytes is their first line, and counts one line end. So the lines of closed lines
-- and a rest are these lines and those of the rest; where the rest has no line end, just these lines have theirs.
use Rattle.std.proofs.Common.{◌≡◌, ℕ, suc, zero, ◌+◌, ◌-◌, ◌<◌, Bool, true, false, cond, List, [], ◌∷◌, ◌++◌, length, take, count_by, refl, sym, ap, ap₂, ◌∙◌, arith, append_assoc, append-nil, ◌||◌}
use Rattle.std.specs.List.{list_any, onto_first}
use Rattle.std.proofs.Math.Seq.{take-append-add}
use Rattle.std.proofs.lemmas.List.{take_all}
use Rattle.std.proofs.lemmas.List.Sums.{sum_by-cons}
use Rattle.pop_edge.specs.Lines.{is_end, lines_of, ended_lines}
use Rattle.pop_edge.specs.LineState.{closed, AreLines}

-- a bound on a list's front, when more comes behind it
pub take_front : (n : ℕ) (xs ys : List ℕ) → take n (xs ++ ys) ≡ take n xs ++ take (n - length xs) ys
take_front n [] ys = ap (λ k. take k ys) (let e : n ≡ n - 0 = omega arith in e)
    ∙ ap (λ zs. zs ++ take (n - 0) ys) (sym (take_all n (let none : List ℕ = [] in none) (omega arith)))
take_front zero (x ∷ xs) ys = ap (λ k. take k ys) (let e : 0 ≡ 0 - length (x ∷ xs) = omega arith in e)
take_front (suc n) (x ∷ xs) ys =
    let e : n - length xs ≡ suc n - length (x ∷ xs) = omega arith in
    ap (λ zs. x ∷ zs) (take_front n xs ys ∙ ap (λ k. take n xs ++ take k ys) e)

-- where no byte is a line end, the first isn't, nor one behind it
no_head : (b : ℕ) (bs : List ℕ) → list_any is_end (b ∷ bs) ≡ false → (is_end b ≡ false) × (list_any is_end bs ≡ false)
no_head b bs h = by (is_end b) (list_any is_end bs) h
  where
    by : (s t : Bool) → (s || t) ≡ false → (s ≡ false) × (t ≡ false)
    by true t h = absurd (cc)
    by false t h = (refl, h)

-- a line with its end stands before the lines of the rest
pub lines_behind : (line rest : List ℕ) → list_any is_end line ≡ false
    → lines_of (line ++ 10 ∷ rest) ≡ line ∷ lines_of rest
lines_behind [] rest h = refl
lines_behind (b ∷ line) rest h =
    let p = no_head b line h in
    let head : is_end b ≡ false = p.0 in
    rw head (ap (onto_first b) (lines_behind line rest p.1))

-- and counts one line end
pub ends_behind : (line rest : List ℕ) → list_any is_end line ≡ false
    → count_by is_end (line ++ 10 ∷ rest) ≡ suc (count_by is_end rest)
ends_behind [] rest h = sum_by-cons (λ x. cond (is_end x) 1 0) 10 rest ∙ omega arith
ends_behind (b ∷ line) rest h =
    let p = no_head b line h in
    let head : is_end b ≡ false = p.0 in
    sum_by-cons (λ x. cond (is_end x) 1 0) b (line ++ 10 ∷ rest) ∙ rw head (omega (arith, ends_behind line rest p.1))

-- bytes with no line end are one line, or none
pub no_ends : (bytes : List ℕ) → list_any is_end bytes ≡ false → count_by is_end bytes ≡ 0
no_ends [] h = refl
no_ends (b ∷ bytes) h =
    let p = no_head b bytes h in
    let head : is_end b ≡ false = p.0 in
    sum_by-cons (λ x. cond (is_end x) 1 0) b bytes ∙ rw head (omega (arith, no_ends bytes p.1))

-- some bytes without a line end are one line
pub one_line : (bytes : List ℕ) → list_any is_end bytes ≡ false → 0 < length bytes → lines_of bytes ≡ bytes ∷ []
one_line [] h k = absurd (omega arith)
one_line (b ∷ []) h k = let p = no_head b [] h in let head : is_end b ≡ false = p.0 in rw head refl
one_line (b ∷ c ∷ bytes) h k =
    let p = no_head b (c ∷ bytes) h in
    let head : is_end b ≡ false = p.0 in
    rw head (ap (onto_first b) (one_line (c ∷ bytes) p.1 (omega arith)))

-- the lines of closed lines and a rest
pub lines_closed : (lines : List (List ℕ)) (rest : List ℕ) → AreLines lines
    → lines_of (closed lines ++ rest) ≡ lines ++ lines_of rest
lines_closed [] rest h = refl
lines_closed (line ∷ lines) rest h =
    ap lines_of (append_assoc line (10 ∷ closed lines) rest) ∙ lines_behind line (closed lines ++ rest) h.0
    ∙ ap (λ ls. line ∷ ls) (lines_closed lines rest h.1)

-- each closed line has one line end
pub ends_closed : (lines : List (List ℕ)) (rest : List ℕ) → AreLines lines
    → count_by is_end (closed lines ++ rest) ≡ length lines + count_by is_end rest
ends_closed [] rest h = omega arith
ends_closed (line ∷ lines) rest h =
    ap (count_by is_end) (append_assoc line (10 ∷ closed lines) rest) ∙ ends_behind line (closed lines ++ rest) h.0
    ∙ omega (arith, ends_closed lines rest h.1)

-- the ended lines begin with these
pub ended_closed : (lines : List (List ℕ)) (rest : List ℕ) → AreLines lines
    → ended_lines (closed lines ++ rest) ≡ lines ++ ended_lines rest
ended_closed lines rest h =
    ap₂ (λ n ls. take n ls) (ends_closed lines rest h) (lines_closed lines rest h)
    ∙ take-append-add lines (lines_of rest) (count_by is_end rest)

-- closed lines, with one more
pub closed-append : (lines : List (List ℕ)) (line rest : List ℕ)
    → closed (lines ++ line ∷ []) ++ rest ≡ closed lines ++ (line ++ 10 ∷ rest)
closed-append [] line rest = append_assoc line (10 ∷ []) rest
closed-append (l ∷ lines) line rest =
    append_assoc l (10 ∷ closed (lines ++ line ∷ [])) rest ∙ ap (λ xs. l ++ 10 ∷ xs) (closed-append lines line rest)
    ∙ sym (append_assoc l (10 ∷ closed lines) (line ++ 10 ∷ rest))

-- lines, with one more
pub AreLines-append : (lines : List (List ℕ)) (line : List ℕ) → AreLines lines → list_any is_end line ≡ false
    → AreLines (lines ++ line ∷ [])
AreLines-append [] line h k = (k, tt)
AreLines-append (l ∷ lines) line h k = (h.0, AreLines-append lines line h.1 k)

-- with no line end in the rest, just these lines are ended
pub ended_only : (lines : List (List ℕ)) (rest : List ℕ) → AreLines lines → list_any is_end rest ≡ false
    → ended_lines (closed lines ++ rest) ≡ lines
ended_only lines rest h none = ended_closed lines rest h ∙ ap (λ n. lines ++ take n (lines_of rest)) (no_ends rest none)
    ∙ append-nil lines
