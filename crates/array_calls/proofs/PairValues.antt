-- Variables of two values have values below 2, whatever the cursors.
use Rattle.std.proofs.Common.{◌≡◌, inl, inr, ℕ, suc, ◌+◌, ◌-◌, ◌<◌, ◌^◌, cond, lt-ltb, le-ltb, List, [], ◌∷◌, length, get_or, sym, ap, subst, ◌∙◌, arith, zero-add}
use Rattle.std.specs.List.{enumerate_from}
use Rattle.std.proofs.lemmas.Bool.{cases_lt}
use Rattle.std.proofs.lemmas.List.{get_or-map, length-replicate, get_or-replicate}
use Rattle.std.proofs.lemmas.List.FromFn.{length-enumerate_from, get_or-enumerate_from}
use Rattle.pop_model.specs.Stacks.{Origin, StackTable, IsKeyed, first_above, number_at as key_number, row_of, scaled, stacks_for, stream_of, value_at, variables_of, weighted}
use Rattle.pop_model.specs.Stacks.Origin.{Given, Keyed}
use Rattle.pop_model.specs.Instances.{Instance}
use Rattle.pop_model.specs.Popping.{AreValuesAt, values_at}
use Rattle.pop_stacks.proofs.DrawsLemmas.{scaled_below}
use Rattle.pop_stacks.proofs.ValueIsLeast.{number_fits}
use Rattle.array_calls.specs.Values.{AreOfPairs}

-- two values of one weight are below 2
pair_below : (number : ℕ) → number < 2 ^ 64 → weighted (1 ∷ 1 ∷ []) number < 2
pair_below number low =
    let m : ℕ = scaled number 2 in
    let fits : m < 2 = scaled_below number 2 low (omega arith) in
    elim (cases_lt m 1) [
      | inl here ↦
          let value : first_above (1 ∷ 1 ∷ []) m ≡ 0 =
          ap (λ b. cond b 0 (suc (first_above (1 ∷ []) (m - 1)))) (lt-ltb m 1 here) in
          omega (arith, value)
      | inr more ↦
          let value : first_above (1 ∷ 1 ∷ []) m ≡ suc (first_above (1 ∷ []) (m - 1)) =
          ap (λ b. cond b 0 (suc (first_above (1 ∷ []) (m - 1)))) (le-ltb m 1 more) in
          let last : first_above (1 ∷ []) (m - 1) ≡ 0 =
          ap (λ b. cond b 0 (suc (first_above [] (m - 1 - 1)))) (lt-ltb (m - 1) 1 (omega (arith, fits, more))) in
          omega (arith, value, last)
    ]

-- so is each entry of variables of two values
entry_below : (o : Origin) (weights : List (List ℕ)) (j v k : ℕ) → IsKeyed o → row_of weights v ≡ 1 ∷ 1 ∷ []
    → value_at (stacks_for j (record { origin = o; weights = weights })) v k < 2
entry_below (Given rows) weights j v k keyed row = absurd keyed
entry_below (Keyed key sample height) weights j v k keyed row =
    subst (λ ws. weighted ws (key_number key (stream_of j v) k) < 2) (sym row)
    (pair_below (key_number key (stream_of j v) k) (number_fits key (stream_of j v) k))

-- so the values at cursors are those of variables of two values
pub values_two : (i : Instance) (n j : ℕ) (cursors values : List ℕ) → AreOfPairs n i.stacks
    → length cursors ≡ variables_of i.stacks → values ≡ values_at (stacks_for j i.stacks) cursors
    → AreValuesAt (stacks_for j i.stacks) cursors values
values_two i n j cursors values of count are =
    let s : StackTable = stacks_for j i.stacks in
    let weights = ap length of.is ∙ length-replicate n (1 ∷ 1 ∷ []) in
    let at : ℕ × ℕ → ℕ = λ p. value_at s p.0 p.1 in
    record {
      are = are;
      within = λ v below.
          let size = length-enumerate_from 0 cursors in
          let c = get_or cursors v 0 in
          let here : v < length cursors = omega (arith, count, below) in
          let row : row_of i.stacks.weights v ≡ 1 ∷ 1 ∷ [] =
          ap (λ (ws : List (List ℕ)). get_or ws v []) of.is
          ∙ get_or-replicate n v (1 ∷ 1 ∷ []) [] (omega (arith, weights, below)) in
          let two = ap length row in
          let low : value_at s v c < 2 = entry_below i.stacks.origin i.stacks.weights j v c of.keyed row in
          let item : get_or values v 0 ≡ value_at s (0 + v) c =
          ap (λ (vs : List ℕ). get_or vs v 0) are
          ∙ get_or-map at (enumerate_from 0 cursors) v (0, 0) 0 (omega (arith, size, here))
          ∙ ap at (get_or-enumerate_from 0 cursors v (0, 0) here) in
          let same : value_at s (0 + v) c ≡ value_at s v c = ap (λ w. value_at s w c) (zero-add v) in
          omega (arith, item, same, low, two);
    }
