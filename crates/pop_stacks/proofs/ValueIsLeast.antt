-- The value that weights give is the least j such that the weights 0 to j together exceed m, where
-- m is below their sum: where the first weight exceeds m the value is 0, and else it is 1 more than
-- the value that the others give for what is left of m. The scaled number of an entry is below the
-- sum, since the number is below 2 ^ 64.
use Rattle.std.proofs.Common.{inl, inr, ◌≡◌, ℕ, zero, suc, ◌+◌, ◌-◌, ◌*◌, ◌^◌, ◌<◌, ◌≤◌, cond, List, [], ◌∷◌, take, sum, sym, ap, subst, arith}
use Rattle.std.proofs.lemmas.Bool.{cases_lt, lt-ltb, le-ltb}
use Rattle.rand_chacha.specs.Block.{block_word}
use Rattle.rand_chacha.specs.ChaCha.{word_at}
use Rattle.pop_model.specs.Stacks.{row_of, number_at, stream_of, scaled, first_above}
use Rattle.pop_model.specs.Places.{IsLeast}
use Rattle.pop_stacks.specs.Laws.{Exceed, ValueIsLeast}
use Rattle.pop_stacks.proofs.DrawsLemmas.{sum-cons, scaled_below}

-- with one weight more in front the weights exceed as much more, one place later
exceed_behind : (w : ℕ) (weights : List ℕ) (m j : ℕ) → w ≤ m → Exceed weights (m - w) j → Exceed (w ∷ weights) m (suc j)
exceed_behind w weights m j le exceed =
    let split : sum (w ∷ take (suc j) weights) ≡ w + sum (take (suc j) weights) = sum-cons w (take (suc j) weights) in
    omega (arith, split, exceed)

exceed_before : (w : ℕ) (weights : List ℕ) (m j : ℕ) → w ≤ m → Exceed (w ∷ weights) m (suc j) → Exceed weights (m - w) j
exceed_before w weights m j le exceed =
    let split : sum (w ∷ take (suc j) weights) ≡ w + sum (take (suc j) weights) = sum-cons w (take (suc j) weights) in
    omega (arith, split, exceed)

first_exceeds : (w : ℕ) (weights : List ℕ) (m : ℕ) → Exceed (w ∷ weights) m zero → m < w
first_exceeds w weights m exceed =
    let one : sum (w ∷ []) ≡ w + 0 = sum-cons w [] in
    omega (arith, one, exceed)

none_before_behind : (w : ℕ) (weights : List ℕ) (m n : ℕ) → w ≤ m → ((j : ℕ) → j < n → Exceed weights (m - w) j → ⊥)
    → (j : ℕ) → j < suc n → Exceed (w ∷ weights) m j → ⊥
none_before_behind w weights m n le none zero less exceed =
    let first : m < w = first_exceeds w weights m exceed in omega (arith, first, le)
none_before_behind w weights m n le none (suc j) less exceed =
    none j (omega arith) (exceed_before w weights m j le exceed)

-- below the sum of the weights the value is the least
pub first_above_is_least : (weights : List ℕ) (m : ℕ) → m < sum weights
    → IsLeast (Exceed weights m) (first_above weights m)
first_above_is_least [] m below = absurd (omega arith)
first_above_is_least (w ∷ weights) m below = elim (cases_lt m w) [
  | inl here ↦
      let value : first_above (w ∷ weights) m ≡ zero =
      ap (λ b. cond b 0 (suc (first_above weights (m - w)))) (lt-ltb m w here) in
      let one : sum (w ∷ []) ≡ w + 0 = sum-cons w [] in
      subst (IsLeast (Exceed (w ∷ weights) m)) (sym value) (record {
        holds = omega (arith, one, here);
        none_before = λ j less exceed. absurd (omega arith);
      })
  | inr behind ↦
      let value : first_above (w ∷ weights) m ≡ suc (first_above weights (m - w)) =
      ap (λ b. cond b 0 (suc (first_above weights (m - w)))) (le-ltb m w behind) in
      let split : sum (w ∷ weights) ≡ w + sum weights = sum-cons w weights in
      let rest : IsLeast (Exceed weights (m - w)) (first_above weights (m - w)) =
      first_above_is_least weights (m - w) (omega (arith, split, below, behind)) in
      subst (IsLeast (Exceed (w ∷ weights) m)) (sym value) (record {
        holds = exceed_behind w weights m (first_above weights (m - w)) behind rest.holds;
        none_before = none_before_behind w weights m (first_above weights (m - w)) behind rest.none_before;
      })
]

-- a word is below 2 ^ 32
word_fits : (key : List ℕ) (stream place : ℕ) → word_at 10 key stream place < 2 ^ 32
unfolding block_word
word_fits key stream place = omega arith

-- so the number of an entry is below 2 ^ 64
pub number_fits : (key : List ℕ) (v k : ℕ) → number_at key v k < 2 ^ 64
unfolding number_at
number_fits key v k = omega (arith, word_fits key v (2 * k), word_fits key v (2 * k + 1))

-- the law: the value of a keyed entry is the least
pub value_is_least : ValueIsLeast
value_is_least key sample height weights v k some =
    let total = sum (row_of weights v) in
    let number = number_at key (stream_of sample v) k in
    let below : scaled number total < total =
    scaled_below number total (number_fits key (stream_of sample v) k) some in
    first_above_is_least (row_of weights v) (scaled number total) below
