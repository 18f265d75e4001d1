-- The later places of a rising row are those from the first place behind event i on.
use Rattle.std.proofs.Common.{inl, inr, ◌≡◌, ℕ, ◌+◌, ◌-◌, ◌<◌, ◌≤◌, ◌↔◌, true, false, leb, List, length, drop, get_or, Contains, sym, ap, ◌∙◌, arith, leb-true, leb-false}
use Rattle.std.specs.List.Sorted.{IsStrictlyIncreasing, IsNonDecreasing, IsPartitionPoint}
use Rattle.std.proofs.lemmas.Bool.{cases_lt}
use Rattle.std.proofs.lemmas.List.{length-drop, get_or-drop}
use Rattle.std.proofs.lemmas.List.Kept.{AllPairs-from_increasing}

-- a row that rises does not fall
pub does_not_fall : (row : List ℕ) → IsStrictlyIncreasing row → IsNonDecreasing row
does_not_fall row rising i j d up_to within = elim (cases_lt i j) [
  | inl less ↦ let below = AllPairs-from_increasing row rising i j d less within in omega (arith, below)
  | inr over ↦
      let same : i ≡ j = omega arith in
      omega (arith, ap (λ k. get_or row k d) same)
]

-- from the first later place on all are later, and every later place of the row stands there
pub later_from : (row : List ℕ) (i start : ℕ) → start ≤ length row
    → IsPartitionPoint (λ y. leb y i ≡ true) (λ y. leb y i ≡ false) row start
    → (j : ℕ) → Contains (drop start row) j ↔ (Contains row j × (i < j))
later_from row i start bound point j = (
  λ (k, within, is).
      let size = length-drop start row in
      let there : get_or row (start + k) j ≡ j = sym (get_or-drop start row k j) ∙ is in
      let behind = leb-false _ i (point.1 (start + k) j (omega arith) (omega (arith, size, within))) in
      ((start + k, omega (arith, size, within), there), omega (arith, behind, there)),
  λ ((k, within, is), later). elim (cases_lt k start) [
    | inl before ↦
        let up_to = leb-true _ i (point.0 k j (omega arith) before) in
        absurd (omega (arith, up_to, is, later))
    | inr from ↦
        let size = length-drop start row in
        let place : start + (k - start) ≡ k = omega (arith, from) in
        let there = get_or-drop start row (k - start) j ∙ ap (λ n. get_or row n j) place ∙ is in
        (k - start, omega (arith, size, within, from), there)
  ],
)
