-- How many numbers give a value: those from its first number up to below the next value's. Both are 2 ^ 64 times a sum
-- of weights over all weights, rounded up, and the sums differ by the value's weight.
use Rattle.std.proofs.Common.{inl, inr, ◌≡◌, ℕ, zero, suc, ◌+◌, ◌-◌, ◌*◌, ◌/◌, ◌^◌, ◌<◌, ◌≤◌, List, [], ◌∷◌, length, take, sum, get_or, refl, sym, ap, subst, ◌∙◌, arith, Contains}
use Rattle.std.specs.Int.{◌∣◌}
use Rattle.std.proofs.lemmas.Bool.{cases_eq}
use Rattle.std.proofs.lemmas.List.Sums.{sum_by-cons}
use Rattle.std.proofs.Math.Nat.{add-mul, mul_assoc, mul_comm, div-mul_cancel}
use Rattle.pop_model.proofs.Rising.{member_cases, head_member, tail_member, none_in}
use Rattle.pop_samples.specs.Shares.{EntryShares, IsShare, first_number, rounded_up}
use Rattle.pop_samples.proofs.Matching.{Differ, cons_differs}
use Rattle.pop_samples.proofs.Conses.{none_differ}
use Rattle.pop_samples.proofs.Rounding.{rounded_even, rounded_high, rounded_low, rounded_rises}
use Rattle.pop_samples.proofs.Numbers.{given_from, given_till, numbers_give}

-- so many numbers from this one on, the greatest first
from_on : ℕ → ℕ → List ℕ
from_on a zero = []
from_on a (suc n) = (a + n) ∷ from_on a n

-- they are so many
length-from_on : (a n : ℕ) → length (from_on a n) ≡ n
unfolding from_on
length-from_on a zero = refl
length-from_on a (suc n) = ap suc (length-from_on a n)

-- its members are those numbers
in_from_on : (a n k : ℕ) → a ≤ k → k < a + n → Contains (from_on a n) k
unfolding from_on
in_from_on a zero k low high = absurd (omega (arith, low, high))
in_from_on a (suc n) k low high = elim (cases_eq (a + n) k) [
  | inl is ↦ subst (λ (j : ℕ). Contains (from_on a (suc n)) j) is (head_member (a + n) (from_on a n))
  | inr other ↦ tail_member (a + n) (from_on a n) k (in_from_on a n k low (omega (arith, high, other)))
]

-- a number within bounds
record Within (a n k : ℕ) : Type 0 where
  low : a ≤ k
  high : k < a + n

-- each member is within these bounds
within_from_on : (a n k : ℕ) → Contains (from_on a n) k → Within a n k
unfolding from_on
within_from_on a zero k has = absurd (none_in k has)
within_from_on a (suc n) k has = elim (member_cases (a + n) (from_on a n) k has) [
  | inl is ↦ record { low = omega (arith, is); high = omega (arith, is) }
  | inr more ↦
      let old = within_from_on a n k more in
      let high = old.high in
      record { low = old.low; high = omega (arith, high) }
]

-- each once
from_on_differ : (a n : ℕ) → Differ (from_on a n)
unfolding from_on
from_on_differ a zero = none_differ
from_on_differ a (suc n) =
    cons_differs (a + n) (from_on a n)
    (λ k has same. let high = (within_from_on a n k has).high in absurd (omega (arith, high, same)))
    (from_on_differ a n)

-- the weights up to a value are those before it and its own
sum-take_more : (weights : List ℕ) (x : ℕ) → x < length weights
    → sum (take (suc x) weights) ≡ sum (take x weights) + get_or weights x 0
sum-take_more [] x below = absurd (omega (arith, below))
sum-take_more (w ∷ weights) zero below =
    let one : sum (w ∷ []) ≡ w + 0 = sum_by-cons (λ (n : ℕ). n) w [] in omega (arith, one)
sum-take_more (w ∷ weights) (suc x) below =
    let rest = sum-take_more weights x (omega (arith, below)) in
    let low : sum (w ∷ take x weights) ≡ w + sum (take x weights) = sum_by-cons (λ (n : ℕ). n) w (take x weights) in
    let high : sum (w ∷ take (suc x) weights) ≡ w + sum (take (suc x) weights) =
    sum_by-cons (λ (n : ℕ). n) w (take (suc x) weights) in
    omega (arith, rest, low, high)

-- where the sum of all divides 2 ^ 64, nothing is rounded
unrounded : (n total : ℕ) → 0 < total → total ∣ 2 ^ 64 → rounded_up (2 ^ 64 * n) total * total ≡ 2 ^ 64 * n
unrounded n total some divides =
    let q : ℕ = 2 ^ 64 / total in
    let whole : q * total ≡ 2 ^ 64 = div-mul_cancel total {m = 2 ^ 64} divides in
    let same : 2 ^ 64 * n ≡ q * n * total =
    ap (λ (m : ℕ). m * n) (sym whole) ∙ mul_assoc q total n ∙ ap (λ (m : ℕ). q * m) (mul_comm total n)
    ∙ sym (mul_assoc q n total) in
    ap (λ (m : ℕ). rounded_up m total * total) same ∙ rounded_even (q * n) total some ∙ sym same

-- the numbers between the first ones of two values are the share of a weight
pub is_share : (weights : List ℕ) → 0 < sum weights → (x : ℕ) → x < length weights
    → IsShare weights x (first_number weights (suc x) - first_number weights x)
is_share weights some x below =
    let total : ℕ = sum weights in
    let low : ℕ = first_number weights x in
    let high : ℕ = first_number weights (suc x) in
    let next : suc x ≡ x + 1 = omega arith in
    let more = sum-take_more weights x below in
    let rises : low ≤ high =
    rounded_rises (2 ^ 64 * sum (take x weights)) (2 ^ 64 * sum (take (suc x) weights)) total some
    (omega (arith, more)) in
    let split : (low + (high - low)) * total ≡ low * total + (high - low) * total = add-mul low (high - low) total in
    let whole : low + (high - low) ≡ high = omega (arith, rises) in
    let both : high * total ≡ low * total + (high - low) * total = ap (λ (n : ℕ). n * total) (sym whole) ∙ split in
    let low_least = rounded_low (2 ^ 64 * sum (take x weights)) total some in
    let low_most = rounded_high (2 ^ 64 * sum (take x weights)) total some in
    let high_least = rounded_low (2 ^ 64 * sum (take (suc x) weights)) total some in
    let high_most = rounded_high (2 ^ 64 * sum (take (suc x) weights)) total some in
    record {
      exact = ap (λ (n : ℕ). first_number weights n - low) next;
      even = λ divides.
          let a = unrounded (sum (take x weights)) total some divides in
          let b = unrounded (sum (take (suc x) weights)) total some divides in
          omega (arith, a, b, both, more);
      most = omega (arith, both, low_least, high_most, more);
      least = omega (arith, both, low_most, high_least, more);
    }

-- the law: all numbers that give a value
pub entry_shares : EntryShares
entry_shares weights some x below =
    let low : ℕ = first_number weights x in
    let high : ℕ = first_number weights (suc x) in
    let share = is_share weights some x below in (
      from_on low (high - low),
      record {
        differ = from_on_differ low (high - low);
        exact = λ k. (
          λ has. let w = within_from_on low (high - low) k has in
              let a = w.low in let b = w.high in
              numbers_give weights some x k a (omega (arith, a, b)),
          λ g. let a = given_from weights some x k g in let b = given_till weights some x k g in
              in_from_on low (high - low) k a (omega (arith, a, b)),
        );
      },
      subst (IsShare weights x) (sym (length-from_on low (high - low))) share,
    )
