-- Fronts of one list. The running sums of a front are the front of the running sums, so that the sums of all fronts are
-- made by those of one list. A front is no heavier than a longer one.
use Rattle.std.proofs.Common.{inl, inr, ◌≡◌, ℕ, zero, suc, ◌+◌, ◌<◌, ◌≤◌, ◌^◌, List, [], ◌∷◌, length, get_or, map, take, sum, replicate, All, refl, sym, ap, ap₂, ◌∙◌, arith}
use Rattle.std.proofs.lemmas.Bool.{cases_lt}
use Rattle.std.proofs.lemmas.List.{get_or-map, length-map, length-take-le, take-take, take-replicate}
use Rattle.std.proofs.lemmas.List.Sums.{sum_by-take-le}
use Rattle.std.proofs.lemmas.Simd.{map-map}
use Rattle.pop_model.specs.Places.{IsLeast}
use Rattle.pop_rows.specs.FlatRows.{row_at}
use Rattle.pop_rows.specs.Fronts.{fronts_of, AreFronts}
use Rattle.pop_rows.specs.PrefixSums.{running, IsTooHeavy, AreLight}
use Rattle.pop_rows.proofs.SumsInPlace.{length-running}

-- maps that agree on a list give one list
maps_agree : (f g : ℕ → List ℕ) (xs : List ℕ) → All (λ x. f x ≡ g x) xs → map f xs ≡ map g xs
maps_agree f g [] same = refl
maps_agree f g (x ∷ xs) same =
    ap₂ (λ y ys. y ∷ ys) (same 0 x (omega arith)) (maps_agree f g xs (λ k d below. same (suc k) d (omega arith)))

-- a front of running sums
take-running : (total n : ℕ) (xs : List ℕ) → take n (running total xs) ≡ running total (take n xs)
take-running total zero xs = refl
take-running total (suc n) [] = refl
take-running total (suc n) (x ∷ xs) = ap (λ ys. (total + x) ∷ ys) (take-running (total + x) n xs)

-- a shorter front is no heavier
sum-front-le : (n k : ℕ) (list : List ℕ) → n ≤ k → sum (take n list) ≤ sum (take k list)
sum-front-le n k list shorter =
    omega (arith, ap sum (take-take n k list shorter), sum_by-take-le (λ (x : ℕ). x) (take k list) n)

-- there are as many fronts as lengths
pub length-fronts : (lengths list : List ℕ) → length (fronts_of lengths list) ≡ length lengths
length-fronts lengths list = length-map lengths (λ n. take n list)

-- a front by its place
pub front_is : (lengths list : List ℕ) (v : ℕ) → v < length lengths
    → row_at (fronts_of lengths list) v ≡ take (get_or lengths v 0) list
front_is lengths list v below = get_or-map (λ n. take n list) lengths v 0 [] below

-- fronts of ones are rows of ones
pub fronts_of_ones : (lengths : List ℕ) (most : ℕ) → All (λ n. n ≤ most) lengths
    → fronts_of lengths (replicate most 1) ≡ map (λ n. replicate n 1) lengths
fronts_of_ones lengths most within =
    maps_agree (λ n. take n (replicate most 1)) (λ n. replicate n 1) lengths
    (λ k d below. take-replicate (get_or lengths k d) most 1 (within k d below))

-- ---- sums of fronts, where the first so many numbers have a sum of 32 bits
module _ (lengths list : List ℕ) (are : AreFronts lengths list) (light : ℕ) (within : light ≤ length list)
    (fits : sum (take light list) < 2 ^ 32) where
  -- the running sums of the fronts
  pub sums_of_fronts : All (λ n. n ≤ light) lengths
      → fronts_of lengths (running 0 (take light list)) ≡ map (running 0) (fronts_of lengths list)
  sums_of_fronts short =
      maps_agree (λ n. take n (running 0 (take light list))) (λ n. running 0 (take n list)) lengths
      (λ k d below.
      let n = get_or lengths k d in
      take-running 0 n (take light list) ∙ ap (running 0) (take-take n light list (short k d below)))
      ∙ sym (map-map (running 0) (λ n. take n list) lengths)

  -- they are fronts
  pub sums_are_fronts : All (λ n. n ≤ light) lengths → AreFronts lengths (running 0 (take light list))
  sums_are_fronts short = record {
    few = are.few;
    within = λ k d below.
        omega (arith, short k d below, length-running 0 (take light list), length-take-le light list within);
  }

  -- no front is heavy
  pub fronts_are_light : All (λ n. n ≤ light) lengths → AreLight (fronts_of lengths list)
  fronts_are_light short v below =
      let inside : v < length lengths = omega (arith, below, length-fronts lengths list) in
      omega (
        arith,
        ap sum (front_is lengths list v inside),
        sum-front-le (get_or lengths v 0) light list (short v 0 inside),
        fits,
      )

  -- the least front that is longer is the least heavy one
  pub longer_is_heavy : (light < length list → 2 ^ 32 ≤ sum (take (light + 1) list)) → (v : ℕ)
      → IsLeast (λ w. (w < length lengths) × (light < get_or lengths w 0)) v
      → IsLeast (IsTooHeavy (fronts_of lengths list)) v
  longer_is_heavy most v least = record {
    holds =
        let inside = least.holds.0 in
        let longer = least.holds.1 in
        let size = are.within v 0 inside in
        let heavy = most (omega (arith, longer, size)) in (
          omega (arith, inside, length-fronts lengths list),
          omega (
            arith,
            ap sum (front_is lengths list v inside),
            sum-front-le (light + 1) (get_or lengths v 0) list (omega (arith, longer)),
            heavy,
          ),
        );
    none_before = λ w before heavy.
        let inside : w < length lengths = let there = heavy.0 in omega (arith, there, length-fronts lengths list) in
        elim (cases_lt light (get_or lengths w 0)) [
          | inl longer ↦ least.none_before w before (inside, longer)
          | inr short ↦
              let far = heavy.1 in
              omega (
                arith,
                far,
                ap sum (front_is lengths list w inside),
                sum-front-le (get_or lengths w 0) light list short,
                fits,
              )
        ];
  }
