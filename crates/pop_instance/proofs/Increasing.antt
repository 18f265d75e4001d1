-- Lists of numbers that rise strictly.
use Rattle.std.proofs.Common.{inl, inr, ◌≡◌, ℕ, ◌+◌, ◌<◌, List, [], ◌∷◌, ◌++◌, length, arith, All, slice_index}
use Rattle.std.specs.List.Sorted.{IsStrictlyIncreasing}
use Rattle.std.proofs.lemmas.Bool.{cases_lt}
use Rattle.std.proofs.lemmas.List.{length_push, get_or_push, get_or_append_left}

-- a greater number at the end
pub increasing_push : (xs : List ℕ) (n : ℕ) → IsStrictlyIncreasing xs → All (λ x. x < n) xs
    → IsStrictlyIncreasing (xs ++ n ∷ [])
increasing_push xs n rising below k h = elim (cases_lt (k + 1) (length xs)) [
  | inl inside ↦
      let a : slice_index (xs ++ n ∷ []) k ≡ slice_index xs k = get_or_append_left xs (n ∷ []) 0 k (omega arith) in
      let b : slice_index (xs ++ n ∷ []) (k + 1) ≡ slice_index xs (k + 1) =
      get_or_append_left xs (n ∷ []) 0 (k + 1) inside in
      let old = rising k inside in omega arith
  | inr last ↦
      let size : k + 1 < length xs + 1 = omega (arith, length_push xs n) in
      let a : slice_index (xs ++ n ∷ []) k ≡ slice_index xs k = get_or_append_left xs (n ∷ []) 0 k (omega arith) in
      let b : slice_index (xs ++ n ∷ []) (k + 1) ≡ n = get_or_push xs n 0 (k + 1) (omega arith) in
      let old : slice_index xs k < n = below k 0 (omega arith) in omega arith
]
