-- The resampling set of listed events is closed. Which fate an event has after so many steps is decided, since the
-- events are listed and each has finitely many pairs. So an event that shares a variable with one that is in the set
-- after n steps has its fate after n + 1 steps at the latest.
use Rattle.std.proofs.Common.{inl, inr, ◌≡◌, ◌≢◌, ◌⊎◌, ℕ, zero, suc, ◌<◌, true, List, length, get_or, refl, sym, ap, subst, ◌∙◌, arith, Contains}
use Rattle.std.proofs.lemmas.Bool.{cases_eq, cases_Bool, false≢true}
use Rattle.std.proofs.lemmas.List.{get_or_default}
use Rattle.std.proofs.lemmas.List.Elements.{Contains-get_or}
use Rattle.pop_model.specs.Stacks.{StackTable, value_at}
use Rattle.pop_model.specs.Popping.{Cube, cursor, names}
use Rattle.pop_model.specs.Families.{Event, IsEvent}
use Rattle.pop_model.specs.Families.Family.{Listed}
use Rattle.pop_model.specs.Instances.{Instance}
use Rattle.pop_model.specs.Extremal.{Share}
use Rattle.pop_model.proofs.Diamond.{named, names_it}
use Rattle.pop_instance.specs.Events.{cube_at}
use Rattle.confluence_core.proofs.Places.{event_at, event_from, event_to}
use Rattle.prs_rounds.specs.Resampling.{Fate, Touches, Differs, IsLookedAt, HasFate, IsResampled, IsExcluded}
use Rattle.prs_rounds.specs.Resampling.Fate.{Joined, Excluded}
use Rattle.prs_rounds.specs.Laws.{IsClosed}
use Rattle.prs_rounds.proofs.Fates.{one_fate, after, after_is, stays_long, fate_event, resampled_event}
use Rattle.prs_rounds.proofs.MarkedSteps.{with_cube}
use Rattle.prs_rounds.proofs.StuckEvents.{occurs_test, test_occurs, occurs_tested}

-- it holds or it doesn't
abbrev pub IsDecided : Type 0 → Type 0
IsDecided P = P ⊎ (P → ⊥)

-- both hold, or one doesn't
pub decide_both : (P Q : Type 0) → IsDecided P → IsDecided Q → IsDecided (P × Q)
decide_both P Q (inl p) (inl q) = inl (p, q)
decide_both P Q (inl p) (inr not_q) = inr (λ h. not_q h.1)
decide_both P Q (inr not_p) q = inr (λ h. not_p h.0)

-- some number below n is such, or none is
pub some_below : (P : ℕ → Type 0) (n : ℕ) → ((k : ℕ) → k < n → IsDecided (P k))
    → ((k : ℕ) × (k < n) × P k) ⊎ ((k : ℕ) → k < n → P k → ⊥)
some_below P zero each = inr (λ k less holds. omega arith)
some_below P (suc n) each = elim (each n (omega arith)) [
  | inl here ↦ inl (n, omega arith, here)
  | inr not_here ↦ elim (some_below P n (λ k less. each k (omega arith))) [
    | inl found ↦ inl (found.0, omega (arith, found.1), found.2)
    | inr none ↦ inr (λ k less holds. elim (cases_eq k n) [
      | inl last ↦ not_here (subst P last holds)
      | inr before ↦ none k (omega (arith, less, before)) holds
    ])
  ]
]

-- whether the cube names a variable
pub decide_name : (e : Cube) (v : ℕ) → IsDecided (names e v ≡ true)
decide_name e v = elim (cases_Bool (names e v)) [
  | inl is ↦ inl is
  | inr is_not ↦ inr (λ is. false≢true (sym is_not ∙ is))
]

-- some pair of the cube is such, or none is
some_pair : (P : ℕ × ℕ → Type 0) (e : Cube) → ((p : ℕ × ℕ) → IsDecided (P p))
    → ((p : ℕ × ℕ) × Contains e p × P p) ⊎ ((p : ℕ × ℕ) → Contains e p → P p → ⊥)
some_pair P e each = elim (some_below (λ k. P (get_or e k (0, 0))) (length e) (λ k less. each (get_or e k (0, 0)))) [
  | inl found ↦ inl (get_or e found.0 (0, 0), Contains-get_or e found.0 (0, 0) found.1, found.2)
  | inr none ↦ inr (λ p has holds.
      none has.0 has.1 (subst P (sym (get_or_default e has.0 (0, 0) p has.1 ∙ has.2)) holds))
]

-- whether two cubes share a variable
pub decide_share : (e f : Cube) → IsDecided (Share e f)
decide_share e f = elim (some_pair (λ p. names f p.0 ≡ true) e (λ p. decide_name f p.0)) [
  | inl found ↦
      let y = named f found.0.0 found.2 in
      inl (found.0.0, found.0.1, y.0, found.1, y.1)
  | inr none ↦ inr (λ (v, x, y, here, there). none (v, x) here (names_it f (v, y) there))
]

-- a variable that cube f names has another value than cube e demands
abbrev DiffersAt : StackTable → List ℕ → Cube → Cube → Type 0
DiffersAt s c e f = (v x : ℕ) × Contains e (v, x) × (names f v ≡ true) × (value_at s v (cursor c v) ≢ x)

-- some event of a set is one from which an event differs, and so it differs from the set; and back
from_one : (s : StackTable) (c : List ℕ) (set : Event → Type 0) (e : Event)
    → ((f : Event) × set f × DiffersAt s c e.cube f.cube) → Differs s c set e
from_one s c set e (f, has, differs) = (f, has, differs.0, differs.1, differs.2, differs.3, differs.4)

-- an event that differs from a set differs from one of it
to_one : (s : StackTable) (c : List ℕ) (set : Event → Type 0) (e : Event) → Differs s c set e
    → ((f : Event) × set f × DiffersAt s c e.cube f.cube)
to_one s c set e (f, has, v, x, names_it, is, other) = (f, has, (v, x, names_it, is, other))

-- whether two numbers differ
decide_other : (a b : ℕ) → IsDecided (a ≢ b)
decide_other a b = elim (cases_eq a b) [
  | inl same ↦ inr (λ other. other same)
  | inr other ↦ inl other
]

-- whether an event differs from another
decide_differs : (s : StackTable) (c : List ℕ) (e f : Cube) → IsDecided (DiffersAt s c e f)
decide_differs s c e f = elim (some_pair (λ p. (names f p.0 ≡ true) × (value_at s p.0 (cursor c p.0) ≢ p.1)) e
    (λ p. decide_both (names f p.0 ≡ true) (value_at s p.0 (cursor c p.0) ≢ p.1) (decide_name f p.0)
    (decide_other (value_at s p.0 (cursor c p.0)) p.1))) [
      | inl found ↦ inl (found.0.0, found.0.1, found.1, found.2.0, found.2.1)
      | inr none ↦ inr (λ (v, x, has, is, other). none (v, x) has (is, other))
    ]

-- which fate an event has after n steps
pub record AreDecided (i : Instance) (c : List ℕ) (n : ℕ) (e : Event) : Type 0 where
  pub joined : IsDecided (HasFate i c n Joined e)
  pub excluded : IsDecided (HasFate i c n Excluded e)

module _ (s : StackTable) (rows : List (ℕ × Cube)) (c : List ℕ) where
  -- the instance of these events
  abbrev i : Instance
  i = record { stacks = s; family = Listed rows }

  -- some event of the set is such, or none is
  pub some_joined : (n : ℕ) (Q : Cube → Type 0) → ((f : Event) → IsEvent (Listed rows) f
      → IsDecided (HasFate i c n Joined f))
      → ((f : Cube) → IsDecided (Q f)) → IsDecided ((f : Event) × HasFate i c n Joined f × Q f.cube)
  some_joined n Q decided each =
      elim (some_below (λ u. (HasFate i c n Joined (event_at rows u)) × Q (cube_at rows u)) (length rows) (λ u within.
      decide_both (HasFate i c n Joined (event_at rows u)) (Q (cube_at rows u))
      (decided (event_at rows u) (event_from rows (event_at rows u) within refl)) (each (cube_at rows u)))) [
        | inl found ↦ inl (event_at rows found.0, found.2.0, found.2.1)
        | inr none ↦ inr (λ (f, joined, is).
            let at = event_to rows f (fate_event i c n Joined f joined) in
            let same : f ≡ event_at rows f.unit = ap (λ (k : Cube). with_cube f.unit k) (sym at.cube) in
            none f.unit at.within (subst (HasFate i c n Joined) same joined, subst Q (sym at.cube) is))
      ]

  -- an event without a fate that touches the set is looked at
  pub looked : (n : ℕ) (e : Event) → IsEvent (Listed rows) e → (HasFate i c n Joined e → ⊥)
      → (HasFate i c n Excluded e → ⊥) → Touches (HasFate i c n Joined) e → IsLookedAt i (HasFate i c n) e
  looked n e event not_joined not_excluded touches = record { event = event; free = free; touches = touches }
    where
      free : (fate : Fate) → HasFate i c n fate e → ⊥
      free Joined h = not_joined h
      free Excluded h = not_excluded h

  -- what joined by a step isn't excluded by it, and the other way round
  joined_decided : (n : ℕ) (e : Event) → HasFate i c n Joined e → AreDecided i c n e
  joined_decided n e h = record { joined = inl h; excluded = inr (one_fate i c n e h) }

  -- nor is what was excluded in the set
  excluded_decided : (n : ℕ) (e : Event) → HasFate i c n Excluded e → AreDecided i c n e
  excluded_decided n e h = record { joined = inr (λ j. one_fate i c n e j h); excluded = inl h }

  -- an event that doesn't touch the set gets no fate in a step
  untouched : (n : ℕ) (e : Event) → (HasFate i c n Joined e → ⊥) → (HasFate i c n Excluded e → ⊥)
      → (Touches (HasFate i c n Joined) e → ⊥) → AreDecided i c (suc n) e
  untouched n e not_joined not_excluded none = record {
    joined = inr (λ h. elim h [ inl before ↦ not_joined before | inr now ↦ none now.0.touches ]);
    excluded = inr (λ h. elim h [ inl before ↦ not_excluded before | inr now ↦ none now.0.touches ]);
  }

  module _ (n : ℕ) (all : (e : Event) → IsEvent (Listed rows) e → AreDecided i c n e) where
    -- an event that is looked at gets a fate
    pub fate_of : (e : Event) → IsLookedAt i (HasFate i c n) e
        → HasFate i c (suc n) Joined e ⊎ HasFate i c (suc n) Excluded e
    fate_of e is = elim (some_joined n (DiffersAt s c e.cube) (λ f event. (all f event).joined)
        (decide_differs s c e.cube)) [
          | inl one ↦ inr (inr (is, from_one s c (HasFate i c n Joined) e one))
          | inr none ↦ inl (inr (is, λ differs. none (to_one s c (HasFate i c n Joined) e differs)))
        ]

    -- one step more
    decided_more : (e : Event) → IsEvent (Listed rows) e → AreDecided i c (suc n) e
    decided_more e event = elim (all e event).joined [
      | inl before ↦ joined_decided (suc n) e (inl before)
      | inr not_joined ↦ elim (all e event).excluded [
        | inl before ↦ excluded_decided (suc n) e (inl before)
        | inr not_excluded ↦
            elim (some_joined n (Share e.cube) (λ f is. (all f is).joined) (decide_share e.cube)) [
              | inl touches ↦ elim (fate_of e (looked n e event not_joined not_excluded touches)) [
                | inl joins ↦ joined_decided (suc n) e joins
                | inr leaves ↦ excluded_decided (suc n) e leaves
              ]
              | inr none ↦ untouched n e not_joined not_excluded none
            ]
      ]
    ]

  -- which fate a listed event has is decided after any number of steps
  pub decided : (n : ℕ) (e : Event) → IsEvent (Listed rows) e → AreDecided i c n e
  decided zero e event = record {
    joined = elim (cases_Bool (occurs_test s c e.cube)) [
      | inl is ↦ inl (record { event = event; occurs = test_occurs s c e.cube is })
      | inr is_not ↦ inr (λ h. false≢true (sym is_not ∙ occurs_tested s c e.cube h.occurs))
    ];
    excluded = inr (λ h. h);
  }
  decided (suc n) e event = decided_more n (decided n) e event

  -- an event that shares a variable with one of the set is in it or excluded
  in_or_excluded : (n : ℕ) (e : Event) → IsEvent (Listed rows) e → Touches (HasFate i c n Joined) e
      → IsResampled i c e ⊎ IsExcluded i c e
  in_or_excluded n e event touches = elim (decided n e event).joined [
    | inl joined ↦ inl (n, joined)
    | inr not_joined ↦ elim (decided n e event).excluded [
      | inl excluded ↦ inr (n, excluded)
      | inr not_excluded ↦ elim (fate_of n (decided n) e (looked n e event not_joined not_excluded touches)) [
        | inl joins ↦ inl (suc n, joins)
        | inr leaves ↦ inr (suc n, leaves)
      ]
    ]
  ]

  -- an excluded event differs from the set
  excluded_differs : (n : ℕ) (e : Event) → HasFate i c n Excluded e → Differs s c (IsResampled i c) e
  excluded_differs zero e h = absurd h
  excluded_differs (suc n) e h = elim h [
    | inl before ↦ excluded_differs n e before
    | inr now ↦
        let one = to_one s c (HasFate i c n Joined) e now.1 in
        from_one s c (IsResampled i c) e (one.0, (n, one.1), one.2)
  ]

  -- no event is both in the set and excluded
  not_both : (n m : ℕ) (e : Event) → HasFate i c n Excluded e → HasFate i c m Joined e → ⊥
  not_both n m e leaves joins =
      let same : after n m ≡ after m n = omega (arith, after_is n m, after_is m n) in
      one_fate i c (after n m) e
      (subst (λ k. HasFate i c k Joined e) (sym same) (stays_long i c m n Joined e joins))
      (stays_long i c n m Excluded e leaves)

  -- the resampling set is closed
  pub closed_set : IsClosed i c
  closed_set = record {
    occurring = λ e h. (zero, h);
    events = λ e h. resampled_event i c e h;
    closed = λ e event (f, joined, share). in_or_excluded joined.0 e event (f, joined.1, share);
    apart = λ e leaves joins. not_both leaves.0 joins.0 e leaves.1 joins.1;
    differs = λ e h. excluded_differs h.0 e h.1;
    outside = λ e event none occurs. none (zero, record { event = event; occurs = occurs });
  }
