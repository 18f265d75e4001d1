-- Values of many entries. Where sums rise, the places that move past each sum not above a
-- number end at the least place of a sum above it. The least places of sums above the scaled
-- numbers are the values that the weights give, as they are for one entry.
use Rattle.std.proofs.Common.{inl, inr, ◌≡◌, ℕ, ◌+◌, ◌-◌, ◌<◌, ◌≤◌, List, length, get_or, cond, sym, ap, subst, arith}
use Rattle.std.proofs.lemmas.Bool.{cases_lt, lt-ltb, le-ltb}
use Rattle.pop_stacks.specs.Draws.{differences, past, number_in, RisesFrom, AreDrawn, AreScaled, IsFirstAbove, AreFirstAbove}
use Rattle.pop_stacks.proofs.DrawsLemmas.{length-differences, rises_between, unit_sums, drawn}

-- the least places of sums above the scaled numbers are the values that the weights give
pub drawn_many : (sums words : List ℕ) (at n : ℕ) (numbers values : List ℕ) → 0 < length sums → RisesFrom 0 sums
    → AreScaled (get_or sums (length sums - 1) 0) words at n numbers → AreFirstAbove sums numbers n values
    → AreDrawn (differences 0 sums) words at n values
drawn_many sums words start n numbers values some rising scaled firsts i below =
    let at = firsts i below in
    let within = at.within in (
      drawn sums (number_in words start i) (get_or numbers i 0) (get_or values i 0) some rising (scaled i below)
          within at.above at.least,
      omega (arith, length-differences 0 sums, within),
    )

-- where the sums are 1, 2, 3 and so on, the least place of a sum above m is m
pub unit_first : (sums : List ℕ) (m : ℕ) → RisesFrom 0 sums → get_or sums (length sums - 1) 0 ≡ length sums
    → m < length sums → IsFirstAbove sums m m
unit_first sums m rising units within = record {
  within = within;
  above = let e = unit_sums sums m rising within units in omega (arith, e);
  least = λ k less. let e = unit_sums sums k rising (omega arith) units in omega (arith, e);
}

-- a place moved past the first n sums that are not above m: none of those before it is above m,
-- and one of the n that stands there is
pub record IsPassed (sums : List ℕ) (n m place : ℕ) : Type 0 where
  pub reached : place ≤ n
  pub least : (k : ℕ) → k < place → get_or sums k 0 ≤ m
  pub above : place < n → m < get_or sums place 0

-- the next sum
pub pass_turn : (sums : List ℕ) (n m place : ℕ) → RisesFrom 0 sums → n < length sums → IsPassed sums n m place
    → IsPassed sums (n + 1) m (past (get_or sums n 0) m place)
pass_turn sums n m place rising within passed =
    let sum = get_or sums n 0 in
    let reached = passed.reached in
    elim (cases_lt m sum) [
      | inl above ↦
          let stays : past sum m place ≡ place = ap (λ b. cond b place (place + 1)) (lt-ltb m sum above) in
          subst (IsPassed sums (n + 1) m) (sym stays) record {
            reached = omega arith;
            least = passed.least;
            above = λ less. elim (cases_lt place n) [
              | inl before ↦ passed.above before
              | inr after ↦
                  let here : n ≡ place = omega arith in
                  subst (λ k. m < get_or sums k 0) here above
            ];
          }
      | inr at_most ↦
          let moves : past sum m place ≡ place + 1 = ap (λ b. cond b place (place + 1)) (le-ltb m sum at_most) in
          let here : place ≡ n = elim (cases_lt place n) [
            | inl before ↦
                let above = passed.above before in
                let rises = rises_between 0 sums place n rising reached within in
                absurd (omega (arith, above, rises, at_most))
            | inr after ↦ omega arith
          ] in
          subst (IsPassed sums (n + 1) m) (sym moves) record {
            reached = omega arith;
            least = λ k less.
                omega (arith, rises_between 0 sums k n rising (omega arith) within, at_most);
            above = λ less. absurd (omega arith);
          }
    ]

-- no place has moved yet
pub none_passed : (sums : List ℕ) (m place : ℕ) → place ≡ 0 → IsPassed sums 0 m place
none_passed sums m place start = record {
  reached = omega arith;
  least = λ k less. absurd (omega arith);
  above = λ less. absurd (omega arith);
}
