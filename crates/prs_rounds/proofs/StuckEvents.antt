-- The list of the events that occur, by rising unit: it is there at any cursors, and the events of the places of those
-- that occur are it.
use Rattle.std.proofs.Common.{inl, inr, ◌≡◌, ℕ, ◌<◌, true, Bool, List, [], ◌∷◌, length, map, get_or, refl, sym, ap, subst, ◌∙◌, arith, Contains, eqb-true, eq-eqb, ◌==◌}
use Rattle.std.specs.List.{list_all, range_with_len, filter}
use Rattle.std.specs.List.Sorted.{IsStrictlyIncreasing}
use Rattle.std.proofs.lemmas.List.Kept.{IsStrictlyIncreasing-filter}
use Rattle.std.proofs.lemmas.List.Sums.{AllPass-from_list_all, list_all-from_AllPass}
use Rattle.pop_model.specs.Stacks.{StackTable, value_at}
use Rattle.pop_model.specs.Popping.{Cube, Occurs, cursor}
use Rattle.pop_model.specs.Families.{Event, IsEvent}
use Rattle.pop_model.specs.Families.Family.{Listed}
use Rattle.pop_model.specs.Runs.{IsStuckList}
use Rattle.pop_model.proofs.Rising.{head_member, tail_member, member_cases}
use Rattle.pop_model.proofs.Members.{in_range}
use Rattle.pop_instance.specs.Events.{cube_at}
use Rattle.confluence_core.proofs.Places.{listed, event_at, event_from, event_to}
use Rattle.prs_rounds.specs.Resampling.{OccursIn}
use Rattle.prs_rounds.specs.Units.{AreUnitsOf}
use Rattle.prs_rounds.proofs.ShownLemmas.{filter_keeps, filter_has, range_below, range_rises}

-- whether a cube occurs
pub occurs_test : StackTable → List ℕ → Cube → Bool
occurs_test s c e = list_all (λ p. value_at s p.0 (cursor c p.0) == p.1) e

-- what passes the test occurs
pub test_occurs : (s : StackTable) (c : List ℕ) (e : Cube) → occurs_test s c e ≡ true → Occurs s c e
unfolding occurs_test
test_occurs s c e is k d h =
    let p : ℕ × ℕ = get_or e k d in
    eqb-true (value_at s p.0 (cursor c p.0)) p.1 (AllPass-from_list_all
    (λ (q : ℕ × ℕ). value_at s q.0 (cursor c q.0) == q.1) e is k d h)

-- what occurs passes the test
pub occurs_tested : (s : StackTable) (c : List ℕ) (e : Cube) → Occurs s c e → occurs_test s c e ≡ true
unfolding occurs_test
occurs_tested s c e occurs = list_all-from_AllPass (λ (q : ℕ × ℕ). value_at s q.0 (cursor c q.0) == q.1) e
    (λ k d h. let p : ℕ × ℕ = get_or e k d in eq-eqb (value_at s p.0 (cursor c p.0)) p.1 (occurs k d h))

-- the event of this unit and this cube
abbrev event_with : ℕ → Cube → Event
event_with u e = record { unit = u; cube = e }

-- the units of these are what they were made of
pub units_are : (rows : List (ℕ × Cube)) (us : List ℕ) → map (λ (e : Event). e.unit) (map (event_at rows) us) ≡ us
units_are rows [] = refl
units_are rows (u ∷ us) = ap (λ (vs : List ℕ). u ∷ vs) (units_are rows us)

-- the events of these units
pub mapped_has : (rows : List (ℕ × Cube)) (us : List ℕ) (u : ℕ) → Contains us u
    → Contains (map (event_at rows) us) (event_at rows u)
mapped_has rows [] u h = absurd (omega (arith, h.1))
mapped_has rows (w ∷ us) u h = elim (member_cases w us u h) [
  | inl same ↦ subst (λ x. Contains (map (event_at rows) (w ∷ us)) (event_at rows x)) same
      (head_member (event_at rows w) (map (event_at rows) us))
  | inr later ↦ tail_member (event_at rows w) (map (event_at rows) us) (event_at rows u) (mapped_has rows us u later)
]

-- and each of these is the event of one of the units
pub mapped_from : (rows : List (ℕ × Cube)) (us : List ℕ) (e : Event) → Contains (map (event_at rows) us) e
    → (u : ℕ) × Contains us u × (event_at rows u ≡ e)
mapped_from rows [] e h = absurd (omega (arith, h.1))
mapped_from rows (w ∷ us) e h = elim (member_cases (event_at rows w) (map (event_at rows) us) e h) [
  | inl same ↦ (w, head_member w us, same)
  | inr later ↦ let rest = mapped_from rows us e later in (rest.0, tail_member w us rest.0 rest.1, rest.2)
]

-- the events that occur, by rising unit
pub some_stuck : (s : StackTable) (rows : List (ℕ × Cube)) (c : List ℕ)
    → (events : List Event) × IsStuckList (listed s rows) c events
some_stuck s rows c = (
  map (event_at rows) us,
  record {
    rising = subst IsStrictlyIncreasing (sym (units_are rows us))
        (IsStrictlyIncreasing-filter (λ u. occurs_test s c (cube_at rows u)) (range_with_len 0 (length rows))
        (range_rises 0 (length rows)));
    exact = λ e. (to e, from e);
  },
)
  where
    us : List ℕ
    us = filter (λ u. occurs_test s c (cube_at rows u)) (range_with_len 0 (length rows))

    to : (e : Event) → Contains (map (event_at rows) (filter (λ u. occurs_test s c (cube_at rows u))
        (range_with_len 0 (length rows)))) e
        → IsEvent (Listed rows) e × Occurs s c e.cube
    to e has =
        let at = mapped_from rows (filter (λ u. occurs_test s c (cube_at rows u)) (range_with_len 0 (length rows))) e
        has in
        let kept = filter_keeps (λ u. occurs_test s c (cube_at rows u)) (range_with_len 0 (length rows)) at.0 at.1 in
        let within : at.0 < length rows = range_below (length rows) at.0 kept.0 in
        subst (λ (x : Event). IsEvent (Listed rows) x × Occurs s c x.cube) at.2
        (event_from rows (event_at rows at.0) within refl, test_occurs s c (cube_at rows at.0) kept.1)

    from : (e : Event) → IsEvent (Listed rows) e × Occurs s c e.cube
        → Contains (map (event_at rows) (filter (λ u. occurs_test s c (cube_at rows u))
        (range_with_len 0 (length rows)))) e
    from e (is, occurs) =
        let at = event_to rows e is in
        let same : event_at rows e.unit ≡ e = ap (event_with e.unit) at.cube in
        subst (λ x. Contains (map (event_at rows) (filter (λ u. occurs_test s c (cube_at rows u))
        (range_with_len 0 (length rows)))) x) same
        (mapped_has rows (filter (λ u. occurs_test s c (cube_at rows u)) (range_with_len 0 (length rows))) e.unit
        (filter_has (λ u. occurs_test s c (cube_at rows u)) (range_with_len 0 (length rows)) e.unit
        (in_range (length rows) e.unit at.within) (occurs_tested s c (cube_at rows e.unit)
        (subst (Occurs s c) (sym at.cube) occurs))))

-- events of the units of those that occur are the stuck list
pub stuck_from : (s : StackTable) (rows : List (ℕ × Cube)) (c units : List ℕ) (stuck : List Event)
    → AreUnitsOf (OccursIn (listed s rows) c) units → stuck ≡ map (event_at rows) units
    → IsStuckList (listed s rows) c stuck
stuck_from s rows c units stuck are is = subst (IsStuckList (listed s rows) c) (sym is) (record {
  rising = subst IsStrictlyIncreasing (sym (units_are rows units)) are.rising;
  exact = λ e. (to e, from e);
})
  where
    event_is : (e : Event) → OccursIn (listed s rows) c e → event_at rows e.unit ≡ e
    event_is e occurs = ap (event_with e.unit) (event_to rows e occurs.event).cube

    to : (e : Event) → Contains (map (event_at rows) units) e → IsEvent (Listed rows) e × Occurs s c e.cube
    to e has =
        let at = mapped_from rows units e has in
        let there = (are.exact at.0).0 at.1 in
        let same : event_at rows there.0.unit ≡ there.0 = event_is there.0 there.2 in
        let is_e : there.0 ≡ e = sym same ∙ ap (event_at rows) there.1 ∙ at.2 in
        subst (λ (x : Event). IsEvent (Listed rows) x × Occurs s c x.cube) is_e (there.2.event, there.2.occurs)

    from : (e : Event) → IsEvent (Listed rows) e × Occurs s c e.cube → Contains (map (event_at rows) units) e
    from e (event, occurs) =
        let o : OccursIn (listed s rows) c e = record { event = event; occurs = occurs } in
        let has = (are.exact e.unit).1 (e, refl, o) in
        subst (Contains (map (event_at rows) units)) (event_is e o) (mapped_has rows units e.unit has)
