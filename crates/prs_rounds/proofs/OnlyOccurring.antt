-- On an extremal instance no event joins the events that occur: one that shares a variable with an event that occurs
-- demands another value of a shared variable, so it differs there.
use Rattle.std.proofs.Common.{inl, inr, ◌≡◌, ◌≢◌, ℕ, zero, suc, List, sym, subst, ◌∙◌}
use Rattle.std.proofs.lemmas.List.Elements.{All-contains}
use Rattle.pop_model.specs.Stacks.{value_at}
use Rattle.pop_model.specs.Popping.{cursor}
use Rattle.pop_model.specs.Families.{Event}
use Rattle.pop_model.specs.Instances.{Instance}
use Rattle.pop_model.specs.Extremal.{Share, Exclude, IsExtremal}
use Rattle.pop_model.proofs.Diamond.{names_it}
use Rattle.prs_rounds.specs.Resampling.{OccursIn, Differs, IsLookedAt, HasFate, IsResampled}
use Rattle.prs_rounds.specs.Resampling.Fate.{Joined}

module _ (i : Instance) (extremal : IsExtremal i.family) (c : List ℕ) where
  -- an event that is looked at beside events that occur differs
  differs : (n : ℕ) (e : Event) → ((f : Event) → HasFate i c n Joined f → OccursIn i c f)
      → IsLookedAt i (HasFate i c n) e → Differs i.stacks c (HasFate i c n Joined) e
  differs n e occurring looked =
      let f : Event = looked.touches.0 in
      let joined : HasFate i c n Joined f = looked.touches.1 in
      let occurs = occurring f joined in
      let other : e ≢ f = λ same. looked.free Joined (subst (HasFate i c n Joined) (sym same) joined) in
      let share : Share e.cube f.cube = looked.touches.2 in
      at_shared f joined occurs (extremal e f looked.event occurs.event other share)
    where
      at_shared : (f : Event) → HasFate i c n Joined f → OccursIn i c f → Exclude e.cube f.cube
          → Differs i.stacks c (HasFate i c n Joined) e
      at_shared f joined occurs (v, x, y, in_e, in_f, differ) =
          let at_f : value_at i.stacks v (cursor c v) ≡ y =
          All-contains (λ (p : ℕ × ℕ). value_at i.stacks p.0 (cursor c p.0) ≡ p.1) f.cube (v, y) occurs.occurs in_f in
          (f, joined, v, x, in_e, names_it f.cube (v, y) in_f, λ is. differ (sym is ∙ at_f))

  -- what joined occurs
  pub joined_occurs : (n : ℕ) (e : Event) → HasFate i c n Joined e → OccursIn i c e
  joined_occurs zero e h = h
  joined_occurs (suc n) e h = elim h [
    | inl before ↦ joined_occurs n e before
    | inr now ↦ absurd (now.1 (differs n e (joined_occurs n) now.0))
  ]

  -- what is in the resampling set occurs
  pub resampled_occurs : (e : Event) → IsResampled i c e → OccursIn i c e
  resampled_occurs e h = joined_occurs h.0 e h.1

-- what occurs is in the resampling set
pub occurs_resampled : (i : Instance) (c : List ℕ) (e : Event) → OccursIn i c e → IsResampled i c e
occurs_resampled i c e h = (zero, h)

-- where the resampling set has an event, some event occurs
pub some_occurs : (i : Instance) (c : List ℕ) (n : ℕ) (e : Event) → HasFate i c n Joined e
    → (f : Event) × OccursIn i c f
some_occurs i c zero e h = (e, h)
some_occurs i c (suc n) e h = elim h [
  | inl before ↦ some_occurs i c n e before
  | inr now ↦ some_occurs i c n now.0.touches.0 now.0.touches.1
]
