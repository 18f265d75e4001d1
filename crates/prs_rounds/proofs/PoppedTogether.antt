-- On an extremal instance the events that occur share no variable, so they can be popped one after another, and leave
-- what a round leaves.
use Rattle.std.proofs.Common.{inl, inr, ◌≡◌, ◌≢◌, ℕ, zero, suc, ◌+◌, ◌<◌, true, false, cond, List, [], ◌∷◌, length, map, refl, sym, ap, subst, ◌∙◌, arith, Contains}
use Rattle.std.specs.List.Sorted.{IsStrictlyIncreasing}
use Rattle.std.proofs.lemmas.Bool.{cases_Bool, false≢true}
use Rattle.pop_model.specs.Popping.{Cube, Occurs, IsPoppable, cursor, names, pop}
use Rattle.pop_model.specs.Families.{Event, IsEvent}
use Rattle.pop_model.specs.Instances.{Instance}
use Rattle.pop_model.specs.Extremal.{IsExtremal}
use Rattle.pop_model.specs.Logs.{LogRecord, IsLegal, replay}
use Rattle.pop_model.proofs.Diamond.{apart_from, poppable_apart, named, occur_together}
use Rattle.pop_model.proofs.PopLemmas.{length-pop, cursor-pop, cursor-pop_other}
use Rattle.pop_model.proofs.Rising.{head_member, tail_member, below_members, rising_tail}
use Rattle.pop_model.proofs.UniqueEnd.{record_of}

-- the log of these events, popped one after another
abbrev pub pops_of : List ℕ → List Event → List LogRecord
pops_of c [] = []
pops_of c (e ∷ events) = record_of c e ∷ pops_of (pop c e.cube) events

-- the cursors after these pops
abbrev pub popped : List ℕ → List Event → List ℕ
popped c [] = c
popped c (e ∷ events) = popped (pop c e.cube) events

-- rising events of the family that can be popped
pub record AreReady (i : Instance) (c : List ℕ) (events : List Event) : Type 0 where
  pub rising : IsStrictlyIncreasing (map (λ e. e.unit) events)
  pub event : (e : Event) → Contains events e → IsEvent i.family e
  pub poppable : (e : Event) → Contains events e → IsPoppable i.stacks c e.cube

-- no variable of f is one of e
abbrev pub IsUnnamed : Cube → Cube → Type 0
IsUnnamed e f = (v : ℕ) → names f v ≡ true → names e v ≡ false

module _ (i : Instance) (extremal : IsExtremal i.family) where
  -- events that occur together share no variable
  pub unnamed_if_extremal : (c : List ℕ) (e f : Event) → IsEvent i.family e → IsEvent i.family f → e ≢ f
      → Occurs i.stacks c e.cube → Occurs i.stacks c f.cube → IsUnnamed e.cube f.cube
  unnamed_if_extremal c e f is_e is_f differ occurs occurs' v has = elim (cases_Bool (names e.cube v)) [
    | inl there ↦
        let x = named e.cube v there in
        let y = named f.cube v has in
        absurd (occur_together i.stacks c e.cube f.cube occurs occurs'
        (extremal e f is_e is_f differ (v, x.0, y.0, x.1, y.1)))
    | inr not_there ↦ not_there
  ]

  -- the first shares none with the others
  first_unnamed : (c : List ℕ) (e : Event) (events : List Event) → AreReady i c (e ∷ events)
      → (f : Event) → Contains events f → IsUnnamed e.cube f.cube
  first_unnamed c e events ready f has =
      let less : e.unit < f.unit = below_members (λ (x : Event). x.unit) e events f ready.rising has in
      let differ : e ≢ f = λ same. let equal : e.unit ≡ f.unit = ap (λ (x : Event). x.unit) same in omega arith in
      let first = head_member e events in
      let later = tail_member e events f has in
      unnamed_if_extremal c e f (ready.event e first) (ready.event f later) differ
      (ready.poppable e first).occurs (ready.poppable f later).occurs

  -- the others are ready after the pop of the first
  pub ready_rest : (c : List ℕ) (e : Event) (events : List Event) → AreReady i c (e ∷ events)
      → AreReady i (pop c e.cube) events
  ready_rest c e events ready = record {
    rising = rising_tail (λ (x : Event). x.unit) e events ready.rising;
    event = λ f has. ready.event f (tail_member e events f has);
    poppable = λ f has. poppable_apart i.stacks c e.cube f.cube
        (apart_from e.cube f.cube (first_unnamed c e events ready f has))
        (ready.poppable f (tail_member e events f has));
  }

  -- the pops are legal
  pub pops_legal : (c : List ℕ) (events : List Event) → AreReady i c events → IsLegal i c (pops_of c events)
  pops_legal c [] ready = tt
  pops_legal c (e ∷ events) ready = (
    record {
      event = ready.event e (head_member e events);
      poppable = ready.poppable e (head_member e events);
      entries = refl;
    },
    pops_legal (pop c e.cube) events (ready_rest c e events ready),
  )

  -- their replay leaves the cursors after the pops
  pub pops_replay : (c : List ℕ) (events : List Event) → replay c (pops_of c events) ≡ popped c events
  pops_replay c [] = refl
  pops_replay c (e ∷ events) = pops_replay (pop c e.cube) events

  -- there are as many cursors after them
  pub length-popped : (c : List ℕ) (events : List Event) → length (popped c events) ≡ length c
  length-popped c [] = refl
  length-popped c (e ∷ events) = length-popped (pop c e.cube) events ∙ length-pop c e.cube

  -- a variable that none of them names keeps its cursor
  pub popped_other : (c : List ℕ) (events : List Event) (v : ℕ)
      → ((e : Event) → Contains events e → names e.cube v ≡ false) → cursor (popped c events) v ≡ cursor c v
  popped_other c [] v none = refl
  popped_other c (e ∷ events) v none =
      popped_other (pop c e.cube) events v (λ f has. none f (tail_member e events f has))
      ∙ cursor-pop_other c e.cube v (none e (head_member e events))

  -- the cursor of a variable that one of them names moves on by 1
  pub popped_named : (c : List ℕ) (events : List Event) (v : ℕ) → AreReady i c events → v < length c
      → (e : Event) → Contains events e → names e.cube v ≡ true → cursor (popped c events) v ≡ cursor c v + 1
  popped_named c [] v ready below e has named = absurd (omega (arith, has.1))
  popped_named c (f ∷ events) v ready below e has named = elim (cases_Bool (names f.cube v)) [
    | inl here ↦
        let moved : cursor (pop c f.cube) v ≡ cursor c v + 1 = cursor-pop c f.cube v below
        ∙ ap (λ b. cond b (cursor c v + 1) (cursor c v)) here in
        popped_other (pop c f.cube) events v (λ g later. unnamed g (first_unnamed c f events ready g later) here)
        ∙ moved
    | inr not_here ↦
        let kept : cursor (pop c f.cube) v ≡ cursor c v = cursor-pop_other c f.cube v not_here in
        let behind : Contains events e = in_tail has not_here in
        popped_named (pop c f.cube) events v (ready_rest c f events ready)
        (subst (λ n. v < n) (sym (length-pop c f.cube)) below)
        e behind named ∙ ap (λ n. n + 1) kept
  ]
    where
      unnamed : (g : Event) → IsUnnamed f.cube g.cube → names f.cube v ≡ true → names g.cube v ≡ false
      unnamed g apart here = elim (cases_Bool (names g.cube v)) [
        | inl there ↦ absurd (false≢true (sym (apart v there) ∙ here))
        | inr not_there ↦ not_there
      ]

      in_tail : Contains (f ∷ events) e → names f.cube v ≡ false → Contains events e
      in_tail (zero, within, same) not_here =
          absurd (false≢true (sym not_here ∙ ap (λ (x : Event). names x.cube v) same ∙ named))
      in_tail (suc k, within, same) not_here = (k, omega (arith, within), same)
