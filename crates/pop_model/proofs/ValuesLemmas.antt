-- The values at cursors, one after another.
use Rattle.std.proofs.Common.{inl, inr, ◌≡◌, ℕ, suc, ◌+◌, ◌<◌, List, [], ◌∷◌, ◌++◌, length, get_or, slice_index, take, sym, ap, subst, ◌∙◌, arith}
use Rattle.std.specs.List.{enumerate_from}
use Rattle.std.proofs.Math.Seq.{take-suc}
use Rattle.std.proofs.lemmas.Bool.{cases_lt}
use Rattle.std.proofs.lemmas.List.{get_or-map, length-map, get_or_append_left, get_or_push, length-take-le}
use Rattle.std.proofs.lemmas.List.FromFn.{get_or-enumerate_from, length-enumerate_from}
use Rattle.pop_model.specs.Stacks.{StackTable, domain_of, value_at}
use Rattle.pop_model.specs.Popping.{cursor, values_at}

-- there is a value for each cursor
pub length-values_at : (s : StackTable) (c : List ℕ) → length (values_at s c) ≡ length c
length-values_at s c = length-map (enumerate_from 0 c) _ ∙ length-enumerate_from 0 c

-- that of a variable is the one at its cursor
pub value-values_at : (s : StackTable) (c : List ℕ) (v : ℕ) → v < length c
    → get_or (values_at s c) v 0 ≡ value_at s v (cursor c v)
value-values_at s c v below =
    let f : ℕ × ℕ → ℕ = λ p. value_at s p.0 p.1 in
    let within : v < length (enumerate_from 0 c) = omega (arith, length-enumerate_from 0 c) in
    let at : get_or (enumerate_from 0 c) v (0, 0) ≡ (0 + v, get_or c v 0) = get_or-enumerate_from 0 c v (0, 0) below in
    let zero_v : 0 + v ≡ v = omega arith in
    get_or-map f (enumerate_from 0 c) v (0, 0) 0 within ∙ ap f at ∙ ap (λ w. f (w, get_or c v 0)) zero_v

-- the next value stands behind those before it
pub values_more : (s : StackTable) (c : List ℕ) (v x : ℕ) → v < length c → x ≡ value_at s v (cursor c v)
    → take v (values_at s c) ++ x ∷ [] ≡ take (v + 1) (values_at s c)
values_more s c v x below is =
    let within : v < length (values_at s c) = omega (arith, length-values_at s c) in
    let next : suc v ≡ v + 1 = omega arith in
    ap (λ y. take v (values_at s c) ++ y ∷ []) (is ∙ sym (value-values_at s c v below))
    ∙ sym (take-suc (values_at s c) v 0 within) ∙ ap (λ n. take n (values_at s c)) next

-- values that their variables have, with one more
pub values_below : (s : StackTable) (c : List ℕ) (v : ℕ) (old new : List ℕ) (x : ℕ) → v < length c
    → old ≡ take v (values_at s c) → new ≡ old ++ x ∷ []
    → ((w : ℕ) → w < v → slice_index old w < domain_of s w) → x < domain_of s v
    → (w : ℕ) → w < v + 1 → slice_index new w < domain_of s w
values_below s c v old new x below is pushed before here w less =
    let size : length old ≡ v = ap length is
    ∙ length-take-le v (values_at s c) (omega (arith, below, length-values_at s c)) in
    elim (cases_lt w v) [
      | inl earlier ↦
          let same : slice_index new w ≡ slice_index old w = ap (λ xs. slice_index xs w) pushed
          ∙ get_or_append_left old (x ∷ []) 0 w (omega (arith, earlier, size)) in
          subst (λ y. y < domain_of s w) (sym same) (before w earlier)
      | inr last ↦
          let same : slice_index new w ≡ x = ap (λ xs. slice_index xs w) pushed
          ∙ get_or_push old x 0 w (omega (arith, last, less, size)) in
          let there : v ≡ w = omega (arith, last, less) in
          subst (λ u. slice_index new w < domain_of s u) there (subst (λ y. y < domain_of s v) (sym same) here)
    ]
