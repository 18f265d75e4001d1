-- No poppable cycle has a settled variable.
use Rattle.std.proofs.Common.{◌≡◌, ℕ, ◌+◌, ◌<◌, true, List, Some, get_or, sym, ap, ◌∙◌, subst, arith}
use Rattle.std.proofs.lemmas.List.Elements.{All-contains}
use Rattle.std.proofs.lemmas.Option.{none-some, same_Some}
use Rattle.pop_model.specs.Stacks.{value_at, height_of}
use Rattle.pop_model.specs.Popping.{Cube, IsPoppable, cursor, names}
use Rattle.pop_model.specs.Cycles.{IsCycle, head_of}
use Rattle.pop_model.specs.Families.{Family}
use Rattle.pop_model.specs.Families.Family.{Cycles}
use Rattle.pop_model.proofs.Following.{named_demand, demand_contains}
use Rattle.pop_model.proofs.CycleFamily.{Heads, stays_in, arrow_demands}
use Rattle.claim_words.specs.declared.opening.Opening.{Opening}
use Rattle.claim_words.specs.Words.{cursor_in, settled_bit}
use Rattle.claim_words.specs.Openings.{count, head_in, head_at}
use Rattle.claim_words.specs.Machine.{Leads, at_last, to_root, goes_on}

module _ (k : Opening) (ws c : List ℕ) (heads : Heads) (family : k.instance.value.family ≡ Cycles heads)
    (same : (v : ℕ) → v < count k → settled_bit (get_or ws (1 + v) 0) ≡ 1
    → cursor c v ≡ cursor_in (get_or ws (1 + v) 0)) (e : Cube) (cycle : IsCycle heads e)
    (poppable : IsPoppable k.instance.value.stacks c e) where
  -- the arrow of a variable of the cycle leads on along it
  on_cycle : (v : ℕ) → v < count k → settled_bit (get_or ws (1 + v) 0) ≡ 1 → names e v ≡ true → (u : ℕ)
      × (head_at k v (cursor_in (get_or ws (1 + v) 0)) ≡ Some u) × (names e u ≡ true)
  on_cycle v near settled there =
      let s = k.instance.value.stacks in
      let on = stays_in heads e cycle v there in
      let d = named_demand e v there in
      let n : ℕ = cursor_in (get_or ws (1 + v) 0) in
      let value : value_at s v (cursor c v) ≡ d.0 = All-contains
      (λ (p : ℕ × ℕ). value_at s p.0 (cursor c p.0) ≡ p.1) e (v, d.0) poppable.occurs
      (demand_contains e v d.0 d.1) in
      let head : head_at k v n ≡ Some on.next =
      ap (λ (f : Family). head_in f s v n) family
      ∙ ap (λ (m : ℕ). head_of heads v (value_at s v m)) (sym (same v near settled))
      ∙ ap (head_of heads v) value ∙ sym (arrow_demands heads e v d.0 d.1) ∙ on.leads in
      (on.next, head, on.named)

  -- so following them round a poppable cycle never ends, though what leads on does
  pub unpoppable : (v : ℕ) → v < count k → settled_bit (get_or ws (1 + v) 0) ≡ 1 → names e v ≡ true → Leads k ws v → ⊥
  unpoppable _ near settled there (at_last v h) =
      let d = named_demand e v there in
      let next : cursor c v + 1 < height_of k.instance.value.stacks v = All-contains
      (λ (p : ℕ × ℕ). cursor c p.0 + 1 < height_of k.instance.value.stacks p.0) e (v, d.0) poppable.next
      (demand_contains e v d.0 d.1) in
      absurd (omega (arith, next, h, same v near settled))
  unpoppable _ near settled there (to_root v h) = let on = on_cycle v near settled there in
      none-some on.0 (sym h ∙ on.1)
  unpoppable _ near here there (goes_on v u h below settled more) =
      let on = on_cycle v near here there in
      let is : on.0 ≡ u = same_Some on.0 u (sym on.1 ∙ h) in
      unpoppable u below settled (subst (λ (x : ℕ). names e x ≡ true) is on.2) more
