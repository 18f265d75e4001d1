-- In stacks without a fault each value of a variable is below the number of its weights. A given row has only such
-- values, and 0 after its end. The value of a keyed entry is the lowest for which the weights up to it exceed a
-- number. If it were after all of them, the last of them would be lower and exceed it too.
use Rattle.std.proofs.Common.{inl, inr, ◌≡◌, ℕ, suc, ◌-◌, ◌<◌, ◌≤◌, List, [], ◌∷◌, length, take, sum, slice_index, sym, subst, ◌∙◌, arith}
use Rattle.std.proofs.lemmas.Bool.{cases_lt}
use Rattle.std.proofs.lemmas.List.{get_or_past, take_all}
use Rattle.pop_model.specs.Stacks.{row_of}
use Rattle.pop_model.specs.Stacks.Origin.{Given, Keyed}
use Rattle.pop_model.specs.Places.{IsLeast}
use Rattle.pop_stacks.specs.Laws.{Exceed}
use Rattle.pop_stacks.proofs.ValueIsLeast.{value_is_least}
use Rattle.printed_samples.specs.Laws.{SoundValues}

-- weights whose sum isn't 0 are some
some_weight : (weights : List ℕ) → 0 < sum weights → 0 < length weights
some_weight [] some = absurd (omega arith)
some_weight (w ∷ weights) some = omega arith

-- the least value such that the weights up to it exceed a number is one of theirs
least_within : (weights : List ℕ) (m n : ℕ) → 0 < length weights → IsLeast (Exceed weights m) n → n < length weights
least_within weights m n some least = elim (cases_lt n (length weights)) [
  | inl within ↦ within
  | inr past ↦
      let last : ℕ = length weights - 1 in
      let size : length weights ≤ suc last = omega (arith, some) in
      let all : take (suc n) weights ≡ take (suc last) weights =
      take_all (suc n) weights (omega (arith, past)) ∙ sym (take_all (suc last) weights size) in
      absurd (least.none_before last (omega (arith, past, some)) (subst (λ ws. m < sum ws) all least.holds))
]

-- the law
pub sound_values : SoundValues
sound_values (Given rows) weights sound v k below some = elim (cases_lt k (length (row_of rows v))) [
  | inl within ↦ sound.rows.values v k (let count = sound.rows.count in omega (arith, count, below)) within
  | inr past ↦
      let none : slice_index (row_of rows v) k ≡ 0 = get_or_past (row_of rows v) k 0 past in
      omega (arith, none, some_weight (row_of weights v) some)
]
sound_values (Keyed key sample height) weights sound v k below some =
    least_within (row_of weights v) _ _ (some_weight (row_of weights v) some)
    (value_is_least key sample height weights v k some)
