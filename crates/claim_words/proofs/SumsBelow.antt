-- Sums over the numbers below a number.
use Rattle.std.proofs.Common.{◌≡◌, ℕ, zero, suc, ◌*◌, ◌^◌, ◌<◌, ◌≤◌, refl, ap, subst, arith, cond, eqb, eq-eqb, lt-ltb, le-ltb, min}
use Rattle.std.proofs.lemmas.Bool.Decides.{nat_tests}
use Rattle.std.specs.Prelude.{nat_lt}
use mathlib.Core.Logic.{dite}
use native.Mathlib.Decide.{ℕ_discrete, dec_le}
use Rattle.claim_words.specs.Maps.{below}

-- lesser weights have a lesser sum, or the same
pub below-le : (f g : ℕ → ℕ) (n : ℕ) → ((i : ℕ) → i < n → f i ≤ g i) → below f n ≤ below g n
below-le f g zero h = omega arith
below-le f g (suc n) h = omega (arith, below-le f g n (λ i l. h i (omega arith)), h n (omega arith))

-- equal weights have equal sums
pub below-same : (f g : ℕ → ℕ) (n : ℕ) → ((i : ℕ) → i < n → f i ≡ g i) → below f n ≡ below g n
below-same f g n h = omega
    (arith, below-le f g n (λ i l. omega (arith, h i l)), below-le g f n (λ i l. omega (arith, h i l)))

-- a lesser one where one of them is less
pub below-less : (f g : ℕ → ℕ) (n j : ℕ) → ((i : ℕ) → i < n → f i ≤ g i) → j < n → f j < g j
    → below f n < below g n
below-less f g zero j h l s = absurd (omega arith)
below-less f g (suc n) j h l s = dite (ℕ_discrete j n)
    (λ e. let last : f n < g n = subst (λ (x : ℕ). f x < g x) e s in
    omega (arith, below-le f g n (λ i q. h i (omega arith))))
    (λ ne. omega (arith, below-less f g n j (λ i q. h i (omega arith)) (omega arith) s, h n (omega arith)))

-- n weights below 2 ^ 31
pub below-bound : (f : ℕ → ℕ) (n : ℕ) → ((i : ℕ) → i < n → f i < 2 ^ 31) → below f n ≤ 2 ^ 31 * n
below-bound f zero h = omega arith
below-bound f (suc n) h = omega (arith, below-bound f n (λ i l. h i (omega arith)), h n (omega arith))

-- the weight of n alone
abbrev pub only : ℕ → ℕ → ℕ
only n x = cond (eqb x n) 1 0

-- n has it
pub only-same : (n : ℕ) → only n n ≡ 1
only-same n = ap (λ b. cond b 1 0) (eq-eqb n n refl)

-- no number below m has it, where n is m or more
pub below-only : (n m : ℕ) → m ≤ n → below (only n) m ≡ 0
below-only n zero h = refl
below-only n (suc m) h = grind (arith, nat_tests, below-only n m)

-- one number below m has it, where n is below m
pub below-only-in : (n m : ℕ) → n < m → below (only n) m ≡ 1
below-only-in n zero h = absurd (omega arith)
below-only-in n (suc m) h = grind (arith, nat_tests, below-only n m, below-only-in n m)

-- what has a weight below m is below m
pub only-low : (n m : ℕ) → 1 ≤ below (only n) m → n < m
only-low n m h = dite (dec_le m n) (λ le. absurd (omega (arith, below-only n m le))) (λ lt. omega arith)

-- x, where a is b; else 0
abbrev pub if_eq : ℕ → ℕ → ℕ → ℕ
if_eq a b x = cond (eqb a b) x 0

-- x, where a is below b; else 0
abbrev pub if_lt : ℕ → ℕ → ℕ → ℕ
if_lt a b x = cond (nat_lt a b) x 0

-- where it is
pub if_lt-yes : (a b x : ℕ) → a < b → if_lt a b x ≡ x
if_lt-yes a b x h = ap (λ t. cond t x 0) (lt-ltb a b h)

-- where it isn't
pub if_lt-no : (a b x : ℕ) → b ≤ a → if_lt a b x ≡ 0
if_lt-no a b x h = ap (λ t. cond t x 0) (le-ltb a b h)

-- the numbers below x and m
pub below-lt : (x m : ℕ) → below (λ i. if_lt i x 1) m ≡ min x m
below-lt x zero = omega arith
below-lt x (suc m) = grind (arith, nat_tests, below-lt x m)

-- the numbers below n, counted
pub below-one : (n : ℕ) → below (λ _. 1) n ≡ n
below-one zero = refl
below-one (suc n) = omega (arith, below-one n)
