-- The least number of which something holds is one number, and the least pair is one pair.
use Rattle.std.proofs.Common.{inl, inr, ◌≡◌, ℕ, ◌<◌, sym, arith}
use Rattle.std.proofs.lemmas.Bool.{cases_eq, cases_lt}
use Rattle.pop_model.specs.Places.{IsLeast, IsLeastPair}

-- the least number is one
pub one_least : (P : ℕ → Type 0) (m n : ℕ) → IsLeast P m → IsLeast P n → m ≡ n
one_least P m n is is' = elim (cases_lt m n) [
  | inl less ↦ absurd (is'.none_before m less is.holds)
  | inr more ↦ elim (cases_eq m n) [
    | inl same ↦ same
    | inr other ↦ let less : n < m = omega arith in absurd (is.none_before n less is'.holds)
  ]
]

-- the least pair is one
pub one_least_pair : (P : ℕ → ℕ → Type 0) (v k w j : ℕ) → IsLeastPair P v k → IsLeastPair P w j → (v ≡ w) × (k ≡ j)
one_least_pair P v k w j is is' = elim (cases_lt v w) [
  | inl less ↦ absurd (is'.none_before v k (inl less) is.holds)
  | inr more ↦ elim (cases_eq v w) [
    | inr other ↦ let less : w < v = omega arith in absurd (is.none_before w j (inl less) is'.holds)
    | inl same ↦ elim (cases_lt k j) [
      | inl less ↦ absurd (is'.none_before v k (inr (same, less)) is.holds)
      | inr more' ↦ elim (cases_eq k j) [
        | inl same' ↦ (same, same')
        | inr other ↦ let less : j < k = omega arith in absurd (is.none_before w j (inr (sym same, less)) is'.holds)
      ]
    ]
  ]
]
