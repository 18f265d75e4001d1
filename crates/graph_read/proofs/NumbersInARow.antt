-- What comes of numbers in a row, where something comes of none, of one or of two of them only.
use Rattle.std.proofs.Common.{◌≡◌, inl, inr, ℕ, ◌+◌, ◌<◌, ◌≤◌, suc, zero, List, [], ◌++◌, flat_map, arith, refl, ap, ap₂, ◌∙◌, append-nil}
use Rattle.std.specs.List.{range_with_len}
use Rattle.std.proofs.lemmas.Bool.{cases_eq}

-- nothing comes where nothing comes of each
pub none_comes : {X : Type 0} (f : ℕ → List X) (a n : ℕ) → ((j : ℕ) → a ≤ j → j < a + n → f j ≡ [])
    → flat_map f (range_with_len a n) ≡ []
none_comes f a zero are = refl
none_comes f a (suc n) are =
    ap₂ (λ xs ys. xs ++ ys) (are a (omega arith) (omega arith))
    (none_comes f (a + 1) n (λ j low high. are j (omega (arith, low)) (omega (arith, high))))

-- something comes of one number only
pub one_comes : {X : Type 0} (f : ℕ → List X) (k a n : ℕ) → a ≤ k → k < a + n
    → ((j : ℕ) → a ≤ j → j < a + n → (j ≡ k → ⊥) → f j ≡ []) → flat_map f (range_with_len a n) ≡ f k
one_comes f k a zero low high others = absurd (omega arith)
one_comes {X} f k a (suc n) low high others =
    elim (cases_eq a k) [
      | inl is ↦
          ap₂ (λ xs ys. xs ++ ys) (ap f is)
          (none_comes f (a + 1) n
          (λ j from to. others j (omega (arith, from)) (omega (arith, to)) (λ same. omega (arith, from, is, same))))
          ∙ append-nil (f k)
      | inr apart ↦
          ap₂ (λ xs ys. xs ++ ys) (others a (omega arith) (omega arith) apart)
          (one_comes f k (a + 1) n (omega (arith, low, apart)) (omega (arith, high))
          (λ j from to. others j (omega (arith, from)) (omega (arith, to))))
    ]

-- something comes of two numbers only, the second behind the first
pub two_come : {X : Type 0} (f : ℕ → List X) (k m a n : ℕ) → m ≡ k + 1 → a ≤ k → m < a + n
    → ((j : ℕ) → a ≤ j → j < a + n → (j ≡ k → ⊥) → (j ≡ m → ⊥) → f j ≡ [])
    → flat_map f (range_with_len a n) ≡ f k ++ f m
two_come f k m a zero next low high others = absurd (omega arith)
two_come {X} f k m a (suc n) next low high others =
    elim (cases_eq a k) [
      | inl is ↦
          ap₂ (λ xs ys. xs ++ ys) (ap f is)
          (one_comes f m (a + 1) n (omega (arith, is, next)) (omega (arith, high))
          (λ j from to. others j (omega (arith, from)) (omega (arith, to)) (λ same. omega (arith, from, is, same))))
      | inr apart ↦
          ap₂ (λ xs ys. xs ++ ys) (others a (omega arith) (omega arith) apart (λ same. omega (arith, same, next, low)))
          (two_come f k m (a + 1) n next (omega (arith, low, apart)) (omega (arith, high))
          (λ j from to. others j (omega (arith, from)) (omega (arith, to))))
    ]
