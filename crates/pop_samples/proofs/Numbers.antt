-- Which numbers give a value. The value is x exactly where the scaled number is at least the weights before x and
-- below those up to x, and it is at least a sum of weights exactly where the number is at least 2 ^ 64 times that sum
-- over all weights, rounded up.
use Rattle.std.proofs.Common.{inl, inr, ◌≡◌, ℕ, zero, suc, ◌-◌, ◌*◌, ◌^◌, ◌<◌, ◌≤◌, cond, List, [], ◌∷◌, take, sum, refl, sym, ap, subst, ◌∙◌, arith}
use Rattle.std.proofs.lemmas.Bool.{cases_lt, lt-ltb, le-ltb}
use Rattle.std.proofs.Math.Nat.{div-lt_iff_lt-mul}
use Rattle.pop_model.specs.Stacks.{stream_of, scaled, first_above}
use Rattle.pop_stacks.proofs.ValueIsLeast.{number_fits}
use Rattle.pop_stacks.proofs.DrawsLemmas.{sum-cons, scaled_below}
use Rattle.pop_samples.specs.Shares.{Gives, NumberedEntries, first_number, rounded_up}
use Rattle.pop_samples.proofs.Rounding.{rounded_at_most, rounded_covers}

-- m is at least the weights before x, and below those up to x
record Between (weights : List ℕ) (x m : ℕ) : Type 0 where
  from : sum (take x weights) ≤ m
  till : m < sum (take (suc x) weights)

-- a first weight that exceeds m gives 0
here_value : (w : ℕ) (weights : List ℕ) (m : ℕ) → m < w → first_above (w ∷ weights) m ≡ 0
here_value w weights m less = ap (λ b. cond b 0 (suc (first_above weights (m - w)))) (lt-ltb m w less)

-- where it doesn't, the others give the value, one place later
behind_value : (w : ℕ) (weights : List ℕ) (m : ℕ) → w ≤ m
    → first_above (w ∷ weights) m ≡ suc (first_above weights (m - w))
behind_value w weights m more = ap (λ b. cond b 0 (suc (first_above weights (m - w)))) (le-ltb m w more)

-- the value that m gives is that between whose sums it is
between_gives : (weights : List ℕ) (x m : ℕ) → Between weights x m → first_above weights m ≡ x
between_gives [] zero m b = refl
between_gives [] (suc x) m b = absurd (let t = b.till in omega (arith, t))
between_gives (w ∷ weights) zero m b =
    let one = sum-cons w [] in
    let t = b.till in
    here_value w weights m (omega (arith, one, t))
between_gives (w ∷ weights) (suc x) m b =
    let low = sum-cons w (take x weights) in
    let high = sum-cons w (take (suc x) weights) in
    let f = b.from in
    let t = b.till in
    behind_value w weights m (omega (arith, low, f))
    ∙ ap suc (between_gives weights x (m - w)
    (record { from = omega (arith, low, f); till = omega (arith, high, t, low, f) }))

-- and only that
gives_between : (weights : List ℕ) (m : ℕ) → m < sum weights → Between weights (first_above weights m) m
gives_between [] m less = absurd (omega (arith, less))
gives_between (w ∷ weights) m less = elim (cases_lt m w) [
  | inl here ↦
      let one = sum-cons w [] in
      subst (λ x. Between (w ∷ weights) x m) (sym (here_value w weights m here))
      (record { from = omega arith; till = omega (arith, one, here) })
  | inr more ↦
      let all = sum-cons w weights in
      let rest : Between weights (first_above weights (m - w)) (m - w) =
      gives_between weights (m - w) (omega (arith, all, less, more)) in
      let low = sum-cons w (take (first_above weights (m - w)) weights) in
      let high = sum-cons w (take (suc (first_above weights (m - w))) weights) in
      let f = rest.from in
      let t = rest.till in
      subst (λ x. Between (w ∷ weights) x m) (sym (behind_value w weights m more))
      (record { from = omega (arith, low, f, more); till = omega (arith, high, t, more) })
]

-- a scaled number is below n where the number is below 2 ^ 64 times n over all weights, rounded up
below_scaled : (number total n : ℕ) → 0 < total → number < rounded_up (2 ^ 64 * n) total → scaled number total < n
below_scaled number total n some less = elim (cases_lt (scaled number total) n) [
  | inl is ↦ is
  | inr not ↦ elim (cases_lt (number * total) (2 ^ 64 * n)) [
    | inl low ↦ (div-lt_iff_lt-mul {k = 2 ^ 64} {x = number * total} {y = n} (omega arith)).1 (omega (arith, low))
    | inr high ↦ absurd (let most = rounded_at_most (2 ^ 64 * n) total number some high in omega (arith, most, less))
  ]
]

-- and at least n where the number is at least that
scaled_above : (number total n : ℕ) → 0 < total → rounded_up (2 ^ 64 * n) total ≤ number → n ≤ scaled number total
scaled_above number total n some le = elim (cases_lt (scaled number total) n) [
  | inr is ↦ is
  | inl low ↦ absurd (
      let less = (div-lt_iff_lt-mul {k = 2 ^ 64} {x = number * total} {y = n} (omega arith)).0 low in
      let covers = rounded_covers (2 ^ 64 * n) total number some le in
      omega (arith, less, covers)
      )
]

-- some weights have no more than all
sum-take : (weights : List ℕ) (k : ℕ) → sum (take k weights) ≤ sum weights
sum-take [] zero = omega arith
sum-take [] (suc k) = omega arith
sum-take (w ∷ weights) zero = omega arith
sum-take (w ∷ weights) (suc k) =
    let rest = sum-take weights k in
    let one = sum-cons w (take k weights) in
    let all = sum-cons w weights in
    omega (arith, rest, one, all)

-- The numbers from a value's first on that are below the next value's give it ..
pub numbers_give : (weights : List ℕ) → 0 < sum weights → (x number : ℕ) → first_number weights x ≤ number
    → number < first_number weights (suc x) → Gives weights x number
numbers_give weights some x number low high = record {
  below =
      let all = sum-take weights (suc x) in
      let most : first_number weights (suc x) ≤ 2 ^ 64 =
      rounded_at_most (2 ^ 64 * sum (take (suc x) weights)) (sum weights) (2 ^ 64) some (omega (arith, all)) in
      omega (arith, most, high);
  value = between_gives weights x (scaled number (sum weights)) (record {
    from = scaled_above number (sum weights) (sum (take x weights)) some low;
    till = below_scaled number (sum weights) (sum (take (suc x) weights)) some high;
  });
}

-- .. and no number below ..
pub given_from : (weights : List ℕ) → 0 < sum weights → (x number : ℕ) → Gives weights x number
    → first_number weights x ≤ number
given_from weights some x number g = elim (cases_lt number (first_number weights x)) [
  | inr is ↦ is
  | inl less ↦ absurd (
      let m : ℕ = scaled number (sum weights) in
      let b : Between weights x m =
      subst (λ y. Between weights y m) g.value
      (gives_between weights m (scaled_below number (sum weights) g.below some)) in
      let low = below_scaled number (sum weights) (sum (take x weights)) some less in
      let f = b.from in
      omega (arith, low, f)
      )
]

-- .. nor above.
pub given_till : (weights : List ℕ) → 0 < sum weights → (x number : ℕ) → Gives weights x number
    → number < first_number weights (suc x)
given_till weights some x number g = elim (cases_lt number (first_number weights (suc x))) [
  | inl is ↦ is
  | inr more ↦ absurd (
      let m : ℕ = scaled number (sum weights) in
      let b : Between weights x m =
      subst (λ y. Between weights y m) g.value
      (gives_between weights m (scaled_below number (sum weights) g.below some)) in
      let high = scaled_above number (sum weights) (sum (take (suc x) weights)) some more in
      let t = b.till in
      omega (arith, high, t)
      )
]

-- the law: the numbers of entries
pub numbered_entries : NumberedEntries
numbered_entries key sample height weights v k =
    record { below = number_fits key (stream_of sample v) k; value = refl }
