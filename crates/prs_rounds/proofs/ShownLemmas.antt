-- What the values show of a cube, and the places of the events that occur.
use Rattle.std.proofs.Common.{inl, inr, ◌≡◌, ℕ, ◌+◌, ◌<◌, ◌==◌, Bool, true, false, cond, List, [], ◌∷◌, length, get_or, filter, refl, sym, ap, subst, ◌∙◌, arith, All, Contains, eqb-true, eq-eqb, ext_get_or}
use Rattle.std.specs.Prelude.{slice_index}
use Rattle.std.specs.List.{range_with_len}
use Rattle.std.specs.List.Sorted.{IsStrictlyIncreasing}
use Rattle.std.proofs.lemmas.Bool.{cases_Bool}
use Rattle.std.proofs.lemmas.List.Kept.{IsStrictlyIncreasing-filter}
use Rattle.std.proofs.lemmas.List.FromFn.{get_or-range_with_len, length-range_with_len}
use Rattle.std.proofs.lemmas.List.Sums.{AllPass-from_list_all, list_all-from_AllPass}
use Rattle.pop_model.specs.Stacks.{StackTable}
use Rattle.pop_model.specs.Popping.{Cube, Occurs, NamesBelow, values_at, current}
use Rattle.pop_model.specs.Families.{Event}
use Rattle.pop_model.proofs.ValuesLemmas.{length-values_at, value-values_at}
use Rattle.pop_model.proofs.Rising.{member_cases, head_member, tail_member}
use Rattle.pop_model.proofs.Members.{in_range}
use Rattle.pop_instance.specs.Events.{cube_at}
use Rattle.confluence_core.proofs.Places.{listed, event_at, event_from, event_to}
use Rattle.prs_rounds.specs.Resampling.{OccursIn}
use Rattle.prs_rounds.specs.Units.{AreUnitsOf}
use Rattle.prs_rounds.specs.Grown.{StartsAt}
use Rattle.prs_rounds.specs.Values.{AreValues, AreRead, shows}

module _ (s : StackTable) (c values : List ℕ) (are : AreValues s c values) (e : Cube)
    (below : NamesBelow e (length c)) where
  -- whether a variable has the value of the pair
  test : ℕ × ℕ → Bool
  test p = slice_index values p.0 == p.1

  -- what is shown occurs
  pub shown_occurs : shows values e ≡ true → Occurs s c e
  unfolding test
  shown_occurs is k d h =
      let p : ℕ × ℕ = get_or e k d in
      let passes : (slice_index values p.0 == p.1) ≡ true = AllPass-from_list_all
      (λ (q : ℕ × ℕ). slice_index values q.0 == q.1) e is k d h in
      sym (are.each p.0 (below k d h)) ∙ eqb-true (slice_index values p.0) p.1 passes

  -- what occurs is shown
  pub occurs_shown : Occurs s c e → shows values e ≡ true
  unfolding test
  occurs_shown occurs = list_all-from_AllPass (λ (q : ℕ × ℕ). slice_index values q.0 == q.1) e
      (λ k d h. let p : ℕ × ℕ = get_or e k d in
      eq-eqb (slice_index values p.0) p.1 (are.each p.0 (below k d h) ∙ occurs k d h))

module _ {X : Type 0} (p : X → Bool) where
  -- a filter at the head
  filter_yes : (y : X) (xs : List X) → p y ≡ true → filter p (y ∷ xs) ≡ y ∷ filter p xs
  filter_yes y xs is = ap (λ b. cond b (y ∷ filter p xs) (filter p xs)) is

  -- what fails the test is left out
  filter_no : (y : X) (xs : List X) → p y ≡ false → filter p (y ∷ xs) ≡ filter p xs
  filter_no y xs is = ap (λ b. cond b (y ∷ filter p xs) (filter p xs)) is

  -- what a filter keeps
  pub filter_keeps : (xs : List X) (x : X) → Contains (filter p xs) x → Contains xs x × (p x ≡ true)
  filter_keeps [] x h = absurd (omega (arith, h.1))
  filter_keeps (y ∷ xs) x h = elim (cases_Bool (p y)) [
    | inl is ↦ elim (member_cases y (filter p xs) x (subst (λ (zs : List X). Contains zs x) (filter_yes y xs is) h)) [
      | inl same ↦ (subst (λ z. Contains (y ∷ xs) z) same (head_member y xs), subst (λ z. p z ≡ true) same is)
      | inr later ↦ let rest = filter_keeps xs x later in (tail_member y xs x rest.0, rest.1)
    ]
    | inr is ↦
        let rest = filter_keeps xs x (subst (λ (zs : List X). Contains zs x) (filter_no y xs is) h) in
        (tail_member y xs x rest.0, rest.1)
  ]

  -- what passes the test is kept
  pub filter_has : (xs : List X) (x : X) → Contains xs x → p x ≡ true → Contains (filter p xs) x
  filter_has [] x h is = absurd (omega (arith, h.1))
  filter_has (y ∷ xs) x h is = elim (member_cases y xs x h) [
    | inl same ↦
        subst (λ (zs : List X). Contains zs x) (sym (filter_yes y xs (ap p same ∙ is)))
        (subst (λ z. Contains (y ∷ filter p xs) z) same (head_member y (filter p xs)))
    | inr later ↦ behind (filter_has xs x later is)
  ]
    where
      behind : Contains (filter p xs) x → Contains (filter p (y ∷ xs)) x
      behind there = elim (cases_Bool (p y)) [
        | inl here ↦ subst (λ (zs : List X). Contains zs x) (sym (filter_yes y xs here))
            (tail_member y (filter p xs) x there)
        | inr not_here ↦ subst (λ (zs : List X). Contains zs x) (sym (filter_no y xs not_here)) there
      ]

-- what a range has is below its end, and a range rises
pub range_below : (n u : ℕ) → Contains (range_with_len 0 n) u → u < n
range_below n u (k, within, same) =
    let less : k < n = omega (arith, length-range_with_len 0 n) in
    let at : get_or (range_with_len 0 n) k u ≡ 0 + k = get_or-range_with_len 0 n k u less in
    omega (arith, less, at, same)

-- a range rises
pub range_rises : (a n : ℕ) → IsStrictlyIncreasing (range_with_len a n)
range_rises a n k h =
    let long = length-range_with_len a n in
    let here = get_or-range_with_len a n k 0 (omega arith) in
    let next = get_or-range_with_len a n (k + 1) 0 (omega arith) in
    omega (arith, here, next)

-- values that are read of all variables are those of all
pub values_of_all : (s : StackTable) (c variables values : List ℕ) → variables ≡ range_with_len 0 (length c)
    → length values ≡ length variables → AreRead s c variables 0 values → AreValues s c values
values_of_all s c variables values all size read = record {
  count = size ∙ ap length all ∙ length-range_with_len 0 (length c);
  each = λ v h.
      let within : v < length values = omega (arith, h, size, ap length all, length-range_with_len 0 (length c)) in
      let zero_v : 0 + v ≡ v = omega arith in
      let at : get_or variables (0 + v) 0 ≡ v =
      ap (λ (xs : List ℕ). get_or xs (0 + v) 0) all ∙ ap (λ k. get_or (range_with_len 0 (length c)) k 0) zero_v
      ∙ get_or-range_with_len 0 (length c) v 0 h ∙ zero_v in
      read v within ∙ ap (current s c) at;
}

-- the places of shown events are the units of the events that occur
pub violated_are : (s : StackTable) (rows : List (ℕ × Cube)) (c values units : List ℕ) → AreValues s c values
    → All (λ r. NamesBelow r.1 (length c)) rows
    → units ≡ filter (λ u. shows values (cube_at rows u)) (range_with_len 0 (length rows))
    → AreUnitsOf (OccursIn (listed s rows) c) units
violated_are s rows c values units are fits is = subst (AreUnitsOf (OccursIn (listed s rows) c)) (sym is) (record {
  rising = IsStrictlyIncreasing-filter shown all (range_rises 0 (length rows));
  exact = λ u. (to u, from u);
})
  where
    shown : ℕ → Bool
    shown u = shows values (cube_at rows u)

    all : List ℕ
    all = range_with_len 0 (length rows)

    to : (u : ℕ) → Contains (filter (λ u. shows values (cube_at rows u)) (range_with_len 0 (length rows))) u
        → (e : Event) × (e.unit ≡ u) × OccursIn (listed s rows) c e
    to u has =
        let kept = filter_keeps (λ u. shows values (cube_at rows u)) (range_with_len 0 (length rows)) u has in
        let within : u < length rows = range_below (length rows) u kept.0 in (
          event_at rows u,
          refl,
          record {
            event = event_from rows (event_at rows u) within refl;
            occurs = shown_occurs s c values are (cube_at rows u) (fits u (0, []) within) kept.1;
          },
        )

    from : (u : ℕ) → (e : Event) × (e.unit ≡ u) × OccursIn (listed s rows) c e
        → Contains (filter (λ u. shows values (cube_at rows u)) (range_with_len 0 (length rows))) u
    from u (e, is_u, occurs) =
        let at = event_to rows e occurs.event in
        let within : u < length rows = subst (λ n. n < length rows) is_u at.within in
        let cube : e.cube ≡ cube_at rows u = sym at.cube ∙ ap (cube_at rows) is_u in
        filter_has (λ u. shows values (cube_at rows u)) (range_with_len 0 (length rows)) u
        (in_range (length rows) u within)
        (occurs_shown s c values are (cube_at rows u) (fits u (0, []) within) (subst (Occurs s c) cube occurs.occurs))

-- the values and the places of shown events are those from which the search starts
pub starts_from : (s : StackTable) (rows : List (ℕ × Cube)) (c values found : List ℕ) → AreValues s c values
    → All (λ r. NamesBelow r.1 (length c)) rows
    → found ≡ filter (λ u. shows values (cube_at rows u)) (range_with_len 0 (length rows))
    → StartsAt s rows c values found
starts_from s rows c values found are fits is = record {
  values_are = are;
  known = λ u has. range_below (length rows) u (kept u has).0;
  exact = λ u within. (
    λ has. shown_occurs s c values are (cube_at rows u) (fits u (0, []) within) (kept u has).1,
    λ occurs. subst (λ xs. Contains xs u) (sym is)
        (filter_has (λ u. shows values (cube_at rows u)) (range_with_len 0 (length rows)) u
        (in_range (length rows) u within)
        (occurs_shown s c values are (cube_at rows u) (fits u (0, []) within) occurs)),
  );
}
  where
    kept : (u : ℕ) → Contains found u → Contains (range_with_len 0 (length rows))
        u × (shows values (cube_at rows u) ≡ true)
    kept u has = filter_keeps (λ u. shows values (cube_at rows u)) (range_with_len 0 (length rows)) u
        (subst (λ xs. Contains xs u) is has)

-- what is found among places, by the values
pub found_again : (rows : List (ℕ × Cube)) (shown values places all found : List ℕ)
    → found ≡ filter (λ u. shows shown (cube_at rows u)) places → shown ≡ values → places ≡ all
    → found ≡ filter (λ u. shows values (cube_at rows u)) all
found_again rows shown values places all found is same there =
    is ∙ ap (λ (vs : List ℕ). filter (λ u. shows vs (cube_at rows u)) places) same
    ∙ ap (filter (λ u. shows values (cube_at rows u))) there

-- values that are those of all variables are the values at the cursors
pub values_are_at : (s : StackTable) (c values : List ℕ) → AreValues s c values → values ≡ values_at s c
values_are_at s c values are = ext_get_or 0 values (values_at s c) (are.count ∙ sym (length-values_at s c))
    (λ v h. let below : v < length c = omega (arith, h, are.count) in are.each v below
    ∙ sym (value-values_at s c v below))
