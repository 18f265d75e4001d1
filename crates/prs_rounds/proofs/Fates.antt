-- What becomes of events in the steps that find the resampling set: no event has two fates, a fate stays, and where no
-- event is left to look at, the steps have ended.
use Rattle.std.proofs.Common.{inl, inr, ◌≡◌, ℕ, zero, suc, ◌+◌, ◌-◌, List, subst, arith}
use Rattle.std.proofs.lemmas.Bool.{cases_lt}
use Rattle.pop_model.specs.Families.{Event, IsEvent}
use Rattle.pop_model.specs.Instances.{Instance}
use Rattle.prs_rounds.specs.Resampling.{Fate, IsLookedAt, HasFate, IsResampled}
use Rattle.prs_rounds.specs.Resampling.Fate.{Joined, Excluded}

-- no event has both fates
pub one_fate : (i : Instance) (c : List ℕ) (n : ℕ) (e : Event) → HasFate i c n Joined e → HasFate i c n Excluded e → ⊥
one_fate i c zero e joined excluded = excluded
one_fate i c (suc n) e joined excluded = elim joined [
  | inl before ↦ elim excluded [
    | inl before' ↦ one_fate i c n e before before'
    | inr now' ↦ now'.0.free Joined before
  ]
  | inr now ↦ elim excluded [
    | inl before' ↦ now.0.free Excluded before'
    | inr now' ↦ now.1 now'.1
  ]
]

-- a fate stays
fate_stays : (i : Instance) (c : List ℕ) (n : ℕ) (f : Fate) (e : Event) → HasFate i c n f e → HasFate i c (suc n) f e
fate_stays i c n Joined e h = inl h
fate_stays i c n Excluded e h = inl h

-- so many steps after n
abbrev pub after : ℕ → ℕ → ℕ
after n zero = n
after n (suc m) = suc (after n m)

-- that many steps after n are n and so many
pub after_is : (n m : ℕ) → after n m ≡ n + m
after_is n zero = let e : n ≡ n + zero = omega arith in e
after_is n (suc m) = let rest = after_is n m in let e : suc (after n m) ≡ n + suc m = omega arith in e

-- a fate stays after any number of steps
pub stays_long : (i : Instance) (c : List ℕ) (n m : ℕ) (f : Fate) (e : Event) → HasFate i c n f e
    → HasFate i c (after n m) f e
stays_long i c n zero f e h = h
stays_long i c n (suc m) f e h = fate_stays i c (after n m) f e (stays_long i c n m f e h)

-- no event is looked at after n steps
abbrev pub HasEnded : Instance → List ℕ → ℕ → Type 0
HasEnded i c n = (e : Event) → IsLookedAt i (HasFate i c n) e → ⊥

module _ (i : Instance) (c : List ℕ) (n : ℕ) (ended : HasEnded i c n) where
  -- nor where the fates are the same
  none_looked_at : (k : ℕ) → ((f : Fate) (e : Event) → HasFate i c k f e → HasFate i c n f e)
      → ((f : Fate) (e : Event) → HasFate i c n f e → HasFate i c k f e)
      → (e : Event) → IsLookedAt i (HasFate i c k) e → ⊥
  none_looked_at k back on e looked = ended e (record {
    event = looked.event;
    free = λ f h. looked.free f (on f e h);
    touches = (looked.touches.0, back Joined looked.touches.0 looked.touches.1, looked.touches.2);
  })

  -- then no event gets a fate any more
  pub no_more : (m : ℕ) (f : Fate) (e : Event) → HasFate i c (after n m) f e → HasFate i c n f e
  no_more zero f e h = h
  no_more (suc m) Joined e h = elim h [
    | inl before ↦ no_more m Joined e before
    | inr now ↦ absurd (none_looked_at (after n m) (no_more m) (stays_long i c n m) e now.0)
  ]
  no_more (suc m) Excluded e h = elim h [
    | inl before ↦ no_more m Excluded e before
    | inr now ↦ absurd (none_looked_at (after n m) (no_more m) (stays_long i c n m) e now.0)
  ]

  -- the set after n steps is the resampling set
  pub resampled_by_then : (e : Event) → IsResampled i c e → HasFate i c n Joined e
  resampled_by_then e h = elim (cases_lt h.0 n) [
    | inl less ↦
        let sum : after h.0 (n - h.0) ≡ n = omega (arith, after_is h.0 (n - h.0)) in
        subst (λ k. HasFate i c k Joined e) sum (stays_long i c h.0 (n - h.0) Joined e h.1)
    | inr not_less ↦
        let sum : h.0 ≡ after n (h.0 - n) = omega (arith, after_is n (h.0 - n)) in
        no_more (h.0 - n) Joined e (subst (λ k. HasFate i c k Joined e) sum h.1)
  ]

-- an event of the resampling set is one of the family
pub fate_event : (i : Instance) (c : List ℕ) (k : ℕ) (f : Fate) (e : Event) → HasFate i c k f e → IsEvent i.family e
fate_event i c zero Joined e h = h.event
fate_event i c zero Excluded e h = absurd h
fate_event i c (suc k) Joined e h = elim h [ inl before ↦ fate_event i c k Joined e before | inr now ↦ now.0.event ]
fate_event i c (suc k) Excluded e h = elim h [ inl before ↦ fate_event i c k Excluded e before | inr now ↦ now.0.event ]

-- and so is each event of the resampling set
pub resampled_event : (i : Instance) (c : List ℕ) (e : Event) → IsResampled i c e → IsEvent i.family e
resampled_event i c e h = fate_event i c h.0 Joined e h.1
