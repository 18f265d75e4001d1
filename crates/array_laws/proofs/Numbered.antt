-- Lines of numbered members of a list.
use Rattle.std.proofs.Common.{◌≡◌, ℕ, suc, ◌+◌, ◌<◌, List, [], ◌∷◌, ◌++◌, length, flat_map, get_or, refl, sym, ap, ap₂, ◌∙◌, arith}
use Rattle.std.specs.List.{enumerate_from, range_with_len}

-- lines of numbered numbers are those of the numbers of their places
lines_from : (f : ℕ × ℕ → List ℕ) (h : ℕ → List ℕ) (n : ℕ) (xs : List ℕ)
    → ((v : ℕ) → v < length xs → f (n + v, get_or xs v 0) ≡ h (n + v))
    → flat_map f (enumerate_from n xs) ≡ flat_map h (range_with_len n (length xs))
lines_from f h n [] same = refl
lines_from f h n (x ∷ xs) same =
    let here : n + 0 ≡ n = omega arith in
    ap₂ (λ (a b : List ℕ). a ++ b)
    (ap (λ (k : ℕ). f (k, x)) (sym here) ∙ same 0 (omega arith) ∙ ap h here)
    (lines_from f h (n + 1) xs (λ v less.
    let on : n + 1 + v ≡ n + suc v = omega arith in
    ap (λ (k : ℕ). f (k, get_or xs v 0)) on ∙ same (suc v) (omega (arith, less)) ∙ ap h (sym on)))

-- from number 0 on
pub lines_of_places : (f : ℕ × ℕ → List ℕ) (h : ℕ → List ℕ) (xs : List ℕ)
    → ((v : ℕ) → v < length xs → f (v, get_or xs v 0) ≡ h v)
    → flat_map f (enumerate_from 0 xs) ≡ flat_map h (range_with_len 0 (length xs))
lines_of_places f h xs same =
    lines_from f h 0 xs (λ v less.
    let here : 0 + v ≡ v = omega arith in
    ap (λ (k : ℕ). f (k, get_or xs v 0)) here ∙ same v less ∙ ap h (sym here))

-- lines that are the same for each numbered member are the same
lines_alike_from : {X : Type 0} (f h : ℕ × X → List ℕ) (n : ℕ) (xs : List X)
    → ((v : ℕ) (x : X) → v < length xs → f (n + v, x) ≡ h (n + v, x))
    → flat_map f (enumerate_from n xs) ≡ flat_map h (enumerate_from n xs)
lines_alike_from f h n [] same = refl
lines_alike_from f h n (x ∷ xs) same =
    let here : n + 0 ≡ n = omega arith in
    ap₂ (λ (a b : List ℕ). a ++ b)
    (ap (λ (k : ℕ). f (k, x)) (sym here) ∙ same 0 x (omega arith) ∙ ap (λ (k : ℕ). h (k, x)) here)
    (lines_alike_from f h (n + 1) xs (λ v y less.
    let on : n + 1 + v ≡ n + suc v = omega arith in
    ap (λ (k : ℕ). f (k, y)) on ∙ same (suc v) y (omega (arith, less)) ∙ ap (λ (k : ℕ). h (k, y)) (sym on)))

-- from number 0 on
pub lines_alike : {X : Type 0} (f h : ℕ × X → List ℕ) (xs : List X)
    → ((v : ℕ) (x : X) → v < length xs → f (v, x) ≡ h (v, x))
    → flat_map f (enumerate_from 0 xs) ≡ flat_map h (enumerate_from 0 xs)
lines_alike f h xs same =
    lines_alike_from f h 0 xs (λ v x less.
    let here : 0 + v ≡ v = omega arith in
    ap (λ (k : ℕ). f (k, x)) here ∙ same v x less ∙ ap (λ (k : ℕ). h (k, x)) (sym here))
