-- The tickets of a pass that has the whole history are a permutation of their log, numbered.
use Rattle.std.proofs.Common.{◌≡◌, ℕ, zero, suc, ◌+◌, ◌<◌, ◌≤◌, List, [], ◌∷◌, ◌++◌, length, sym, refl, ap, ◌∙◌, subst, arith, lt-ltb, le-ltb, eq-eqb, ne_eqb, IsPermutation}
use Rattle.std.proofs.lemmas.Bool.Decides.{nat_tests}
use Rattle.std.specs.Prelude.{nat_lt, filter}
use Rattle.std.specs.List.{enumerate_from}
use Rattle.std.proofs.lemmas.List.{length_push}
use Rattle.std.proofs.lemmas.List.Sorted.{IsPermutation-refl, IsPermutation-sym, IsPermutation-cons, IsPermutation-trans, IsPermutation-append_left, IsPermutation-to_front}
use mathlib.Core.Logic.{dite}
use native.Mathlib.Decide.{ℕ_discrete, dec_le}
use Rattle.claim_words.specs.declared.opening.Opening.{Opening}
use Rattle.claim_words.specs.Maps.{total, In}
use Rattle.claim_words.specs.Openings.{count}
use Rattle.claim_words.specs.Steps.{Drawn}
use Rattle.claim_words.specs.TicketLogs.{Whole, find, log_below, log_of}
use Rattle.claim_words.proofs.SumsBelow.{only}
use Rattle.claim_words.proofs.TicketsAreLegal.{low, single, many}

-- the records under tickets below n
abbrev part : ℕ → List Drawn → List Drawn
part n xs = filter (λ r. nat_lt r.0 n) xs

-- the same below n + 1 where no ticket is n
part-same : (n : ℕ) (xs : List Drawn) → total (λ r. only n r.0) xs ≡ 0 → part (suc n) xs ≡ part n xs
part-same n [] e = refl
part-same n (x ∷ xs) e = grind (arith, nat_tests, part-same n xs)

-- one ticket more
part-more : (n : ℕ) (xs : List Drawn) → total (λ r. only n r.0) xs ≡ 1
    → IsPermutation (part (suc n) xs) (part n xs ++ (n, find n xs) ∷ [])
part-more n [] e = absurd (omega arith)
part-more n (x ∷ xs) e = dite (ℕ_discrete x.0 n)
    (λ is.
    let none : total (λ r. only n r.0) xs ≡ 0 = grind (arith, nat_tests) in
    rw (lt-ltb x.0 (suc n) (omega arith), le-ltb x.0 n (omega arith), eq-eqb x.0 n is, part-same n xs none)
    (subst (λ (j : ℕ). IsPermutation (x ∷ part n xs) (part n xs ++ (j, x.1) ∷ [])) is
    (IsPermutation-sym (part n xs ++ x ∷ []) (x ∷ part n xs) (IsPermutation-to_front (part n xs) x))))
    (λ ne.
    let rest = part-more n xs (grind (arith, nat_tests)) in
    rw (ne_eqb x.0 n ne) (dite (dec_le n x.0)
    (λ le. rw (le-ltb x.0 (suc n) (omega arith), le-ltb x.0 n le) rest)
    (λ lt. rw (lt-ltb x.0 (suc n) (omega arith), lt-ltb x.0 n (omega arith))
    (IsPermutation-cons x (part (suc n) xs) (part n xs ++ (n, find n xs) ∷ []) rest))))

-- no ticket is below 0
part-none : (xs : List Drawn) → part 0 xs ≡ []
part-none [] = refl
part-none (x ∷ xs) = grind (arith, nat_tests, part-none xs)

-- all are below n
part-all : (n : ℕ) (xs : List Drawn) → ((r : Drawn) → In r xs → r.0 < n) → part n xs ≡ xs
part-all n [] h = refl
part-all n (x ∷ xs) h = rw (lt-ltb x.0 n (h x (mathlib.Core.Logic.inl refl)))
    (ap (λ (l : List Drawn). x ∷ l) (part-all n xs (λ r i. h r (mathlib.Core.Logic.inr i))))

-- numbering a list with one more at the end
pub enumerate-push : {A : Type 0} (m : ℕ) (l : List A) (r : A)
    → enumerate_from m (l ++ r ∷ []) ≡ enumerate_from m l ++ (m + length l, r) ∷ []
enumerate-push {A} m [] r =
    let one : ℕ → List (ℕ × A) = λ j. (j, r) ∷ [] in let same : m ≡ m + 0 = omega arith in ap one same
enumerate-push {A} m (q ∷ l) r =
    let same : m + 1 + length l ≡ m + suc (length l) = omega arith in
    ap (λ (x : List (ℕ × A)). (m, q) ∷ x) (enumerate-push (m + 1) l r
    ∙ ap (λ (j : ℕ). enumerate_from (m + 1) l ++ (j, r) ∷ []) same)

-- there are n records of the tickets below n
pub length-below : (mine : List Drawn) (n : ℕ) → length (log_below mine n) ≡ n
length-below mine zero = refl
length-below mine (suc n) = omega (arith, length_push (log_below mine n) (find n mine), length-below mine n)

module _ (k : Opening) (mine : List Drawn) (t : ℕ) (c : ℕ → ℕ) (w : Whole k mine t c)
    (counted : length k.start.value ≡ count k) where
  -- the tickets below n are the records of their log, numbered
  up_to : (n : ℕ) → n ≤ t → IsPermutation (part n mine) (enumerate_from 0 (log_below mine n))
  up_to zero h = subst (λ (l : List Drawn). IsPermutation l []) (sym (part-none mine)) (IsPermutation-refl [])
  up_to (suc n) h =
      let r = find n mine in
      let log = log_below mine n in
      let place : 0 + length log ≡ n = omega (arith, length-below mine n) in
      let numbered : enumerate_from 0 (log ++ r ∷ []) ≡ enumerate_from 0 log ++ (n, r) ∷ [] = enumerate-push 0 log r
      ∙ ap (λ (j : ℕ). enumerate_from 0 log ++ (j, r) ∷ []) place in
      subst (IsPermutation (part (suc n) mine)) (sym numbered)
      (IsPermutation-trans (part (suc n) mine) (part n mine ++ (n, r) ∷ []) (enumerate_from 0 log ++ (n, r) ∷ [])
      (part-more n mine (single k mine t c w counted n (omega arith)))
      (IsPermutation-append_left ((n, r) ∷ []) (part n mine) (enumerate_from 0 log) (up_to n (omega arith))))

  -- so are all
  pub merged : IsPermutation mine (enumerate_from 0 (log_of mine))
  merged =
      let all : part t mine ≡ mine = part-all t mine (λ r i. low k mine t c w counted r i) in
      subst (λ (n : ℕ). IsPermutation mine (enumerate_from 0 (log_below mine n))) (sym (many k mine t c w counted))
      (subst (λ (l : List Drawn). IsPermutation l (enumerate_from 0 (log_below mine t))) all (up_to t (omega arith)))
