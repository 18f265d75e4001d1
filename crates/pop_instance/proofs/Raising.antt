-- Popping a rising cube pair by pair.
use Rattle.std.proofs.Common.{inl, inr, ◌≡◌, ℕ, ◌+◌, ◌<◌, false, cond, ◌||◌, ◌==◌, List, [], length, get_or, take, set, Some, slice_get, slice_index, refl, sym, ap, subst, ◌∙◌, arith, ext_get_or, get_or-take, get_or-set_same, get_or-set_other, length-take, length-set, ne_eqb, eq-eqb}
use Rattle.std.specs.List.Sorted.{IsStrictlyIncreasing}
use Rattle.std.proofs.lemmas.List.{length-map, get_or_default}
use Rattle.std.proofs.lemmas.List.Kept.{AllPairs-from_increasing}
use Rattle.std.proofs.lemmas.List.Folds.{list_any_none}
use Rattle.std.proofs.lemmas.Option.{get_or_from_slice_get, slice_get_within}
use Rattle.std.proofs.lemmas.Bool.{cases_eq}
use Rattle.std.proofs.Math.Bool.{or-false}
use Rattle.pop_model.specs.Popping.{Cube, cursor, names, pop, variables}
use Rattle.pop_model.proofs.PopLemmas.{length-pop, cursor-pop, cursor-pop_other}
use Rattle.pop_model.proofs.Members.{variable_at, names_more}

-- a variable of a rising cube isn't named before its place
pub unnamed_before : (e : Cube) (i : ℕ) (x : ℕ × ℕ) → IsStrictlyIncreasing (variables e) → slice_get e i ≡ Some x
    → names (take i e) x.0 ≡ false
unnamed_before e i x rising at =
    let below : i < length e = slice_get_within e i x at in
    let here : slice_index (variables e) i ≡ x.0 = variable_at e i below
    ∙ ap (λ (p : ℕ × ℕ). p.0) (get_or_from_slice_get e i x (0, 0) at) in
    list_any_none (λ (p : ℕ × ℕ). p.0 == x.0) (take i e) (λ k d h.
    let before : k < i = omega (arith, length-take i e) in
    let within : k < length e = omega arith in
    let size : length (variables e) ≡ length e = length-map e (λ (p : ℕ × ℕ). p.0) in
    let less : slice_index (variables e) k < slice_index (variables e) i =
    AllPairs-from_increasing (variables e) rising k i 0 before (omega arith) in
    let is : get_or (take i e) k d ≡ get_or e k d = get_or-take i e k d before in
    let same : get_or e k d ≡ get_or e k (0, 0) = get_or_default e k d (0, 0) within in
    let var : (get_or (take i e) k d).0 ≡ slice_index (variables e) k = ap (λ (p : ℕ × ℕ). p.0) (is ∙ same)
    ∙ sym (variable_at e k within) in
    ne_eqb (get_or (take i e) k d).0 x.0 (λ equal. absurd (omega arith)))

-- the cursor of a variable before its pair is popped
pub cursor_before : (c : List ℕ) (e : Cube) (i : ℕ) (x : ℕ × ℕ) → IsStrictlyIncreasing (variables e)
    → slice_get e i ≡ Some x → cursor (pop c (take i e)) x.0 ≡ cursor c x.0
cursor_before c e i x rising at = cursor-pop_other c (take i e) x.0 (unnamed_before e i x rising at)

-- one pair more
pub pop_more : (c : List ℕ) (e : Cube) (i : ℕ) (x : ℕ × ℕ) → IsStrictlyIncreasing (variables e)
    → slice_get e i ≡ Some x → x.0 < length c
    → set (pop c (take i e)) x.0 (cursor (pop c (take i e)) x.0 + 1) ≡ pop c (take (i + 1) e)
pop_more c e i x rising at below =
    let done = pop c (take i e) in
    let next = set done x.0 (cursor done x.0 + 1) in
    let size : length next ≡ length c = length-set done x.0 (cursor done x.0 + 1) ∙ length-pop c (take i e) in
    ext_get_or 0 next (pop c (take (i + 1) e)) (size ∙ sym (length-pop c (take (i + 1) e)))
    (λ v h. let within : v < length c = omega arith in
    let right : cursor (pop c (take (i + 1) e)) v ≡ cond (names (take i e) v || (x.0 == v)) (cursor c v + 1)
    (cursor c v) =
    cursor-pop c (take (i + 1) e) v within ∙ ap (λ b. cond b (cursor c v + 1) (cursor c v)) (names_more e i v x at) in
    elim (cases_eq v x.0) [
      | inl same ↦
          let there : x.0 < length done = omega (arith, length-pop c (take i e)) in
          let named : names (take i e) v ≡ false =
          subst (λ w. names (take i e) w ≡ false) (sym same) (unnamed_before e i x rising at) in
          let left : get_or next v 0 ≡ cursor c v + 1 =
          ap (λ w. get_or next w 0) same ∙ get_or-set_same done x.0 (cursor done x.0 + 1) 0 there
          ∙ ap (λ n. n + 1) (cursor_before c e i x rising at) ∙ ap (λ w. cursor c w + 1) (sym same) in
          left ∙ sym (right ∙ ap (λ b. cond (b || (x.0 == v)) (cursor c v + 1) (cursor c v)) named
          ∙ ap (λ b. cond b (cursor c v + 1) (cursor c v)) (eq-eqb x.0 v (sym same)))
      | inr other ↦
          get_or-set_other done x.0 v (cursor done x.0 + 1) 0 other ∙ cursor-pop c (take i e) v within
          ∙ sym (right ∙ ap (λ b. cond (names (take i e) v || b) (cursor c v + 1) (cursor c v))
          (ne_eqb x.0 v (λ h'. other (sym h')))
          ∙ ap (λ b. cond b (cursor c v + 1) (cursor c v)) (or-false (names (take i e) v)))
    ])

-- nothing popped
pub pop_none : (c : List ℕ) → c ≡ pop c []
pop_none c = ext_get_or 0 c (pop c []) (sym (length-pop c [])) (λ v h. sym (cursor-pop_other c [] v refl))
