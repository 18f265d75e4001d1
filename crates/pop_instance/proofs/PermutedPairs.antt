-- What holds of any two members of a list, whichever comes first, holds of any two of its members in another order.
use Rattle.std.proofs.Common.{inl, inr, ◌≡◌, ◌≢◌, ℕ, ◌<◌, List, cond, ◌==◌, length, get_or, refl, sym, ap, subst, ◌∙◌, arith, AllPairs, IsPermutation, swap}
use Rattle.std.proofs.lemmas.Bool.{cases_eq, cases_order}
use Rattle.std.proofs.lemmas.Bool.Decides.{nat_tests}
use Rattle.std.proofs.lemmas.List.Edits.{length-swap, swapped_from_swap}
use Rattle.std.proofs.lemmas.List.Sorted.{IsPermutation-keeps}

-- i for j and j for i, and each other number for itself
abbrev exchanged : ℕ → ℕ → ℕ → ℕ
exchanged i j k = cond (k == i) j (cond (k == j) i k)

-- a place of a list is exchanged for a place of it
exchanged_below : (n i j k : ℕ) → i < n → j < n → k < n → exchanged i j k < n
exchanged_below n i j k inside_i inside_j inside_k = grind (arith, nat_tests)

-- different places are exchanged for different ones
exchanged_apart : (i j a b : ℕ) → a ≢ b → exchanged i j a ≢ exchanged i j b
exchanged_apart i j a b differ same = differ (grind (arith, nat_tests))

module _ {X : Type 0} (R : X → X → Type 0) (turns : (x y : X) → R x y → R y x) where
  -- the member at k of a list of which two members are swapped
  swapped_at : (xs : List X) (i j k : ℕ) (d : X) → i < length xs → j < length xs
      → get_or (swap xs i j) k d ≡ get_or xs (exchanged i j k) d
  swapped_at xs i j k d inside_i inside_j =
      let is = swapped_from_swap xs (swap xs i j) i j d inside_i inside_j refl in
      elim (cases_eq k i) [
        | inl at_i ↦
            let there : exchanged i j k ≡ j = grind (arith, nat_tests) in
            ap (λ n. get_or (swap xs i j) n d) at_i ∙ is.0 ∙ ap (λ n. get_or xs n d) (sym there)
        | inr not_i ↦ elim (cases_eq k j) [
          | inl at_j ↦
              let there : exchanged i j k ≡ i = grind (arith, nat_tests) in
              ap (λ n. get_or (swap xs i j) n d) at_j ∙ is.1 ∙ ap (λ n. get_or xs n d) (sym there)
          | inr not_j ↦
              let there : exchanged i j k ≡ k = grind (arith, nat_tests) in
              is.2 k not_i not_j ∙ ap (λ n. get_or xs n d) (sym there)
        ]
      ]

  -- at two different places, in either order
  either_way : (xs : List X) → AllPairs R xs → (a b : ℕ) (d : X) → a ≢ b → a < length xs → b < length xs
      → R (get_or xs a d) (get_or xs b d)
  either_way xs all a b d differ inside_a inside_b = elim (cases_order a b) [
    | inl same ↦ absurd (differ same)
    | inr (inl before) ↦ all a b d before inside_b
    | inr (inr behind) ↦ turns (get_or xs b d) (get_or xs a d) (all b a d behind inside_a)
  ]

  -- what holds of any two members still does where two of them are swapped
  swap_keeps : (xs : List X) (i j : ℕ) → i < length xs → j < length xs → AllPairs R xs → AllPairs R (swap xs i j)
  swap_keeps xs i j inside_i inside_j all a b d less below =
      let n = length xs in
      let inside : b < n = omega (arith, length-swap xs i j, below) in
      let at_a = swapped_at xs i j a d inside_i inside_j in
      let at_b = swapped_at xs i j b d inside_i inside_j in
      let differ : a ≢ b = λ same. absurd (omega arith) in
      let held = either_way xs all (exchanged i j a) (exchanged i j b) d (exchanged_apart i j a b differ)
      (exchanged_below n i j a inside_i inside_j (omega arith)) (exchanged_below n i j b inside_i inside_j inside) in
      subst (λ x. R x (get_or (swap xs i j) b d)) (sym at_a)
      (subst (R (get_or xs (exchanged i j a) d)) (sym at_b) held)

  -- what holds of any two members holds of any two in each other order
  pub pairs_permuted : (xs ys : List X) → IsPermutation xs ys → AllPairs R xs → AllPairs R ys
  pairs_permuted xs ys is all = IsPermutation-keeps xs (AllPairs R) all
      (λ zs i j inside_i inside_j. swap_keeps zs i j inside_i inside_j) ys is
