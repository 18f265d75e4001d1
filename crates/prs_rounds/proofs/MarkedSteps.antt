-- What marks say of the fates of events: one step of marking is one of the steps that find the resampling set.
use Rattle.std.proofs.Common.{inl, inr, ◌≡◌, ◌≢◌, ◌↔◌, ℕ, suc, ◌<◌, true, false, List, [], length, get_or, refl, sym, ap, subst, ◌∙◌, All, Contains}
use Rattle.std.specs.Prelude.{slice_index}
use Rattle.std.proofs.lemmas.List.Elements.{All-contains}
use Rattle.pop_model.specs.Stacks.{StackTable, value_at}
use Rattle.pop_model.specs.Popping.{Cube, NamesBelow, cursor, names}
use Rattle.pop_model.specs.Families.{Event}
use Rattle.pop_model.specs.Families.Family.{Listed}
use Rattle.pop_model.specs.Instances.{Instance}
use Rattle.pop_model.specs.Extremal.{Share}
use Rattle.pop_model.proofs.Diamond.{named, names_it}
use Rattle.pop_instance.specs.Events.{cube_at}
use Rattle.confluence_core.proofs.Places.{event_at, event_from, event_to}
use Rattle.prs_rounds.specs.Resampling.{Fate, Touches, Differs, IsLookedAt, HasFate}
use Rattle.prs_rounds.specs.Resampling.Fate.{Joined as Joins, Excluded as Leaves}
use Rattle.prs_rounds.specs.Values.{AreValues}
use Rattle.prs_rounds.specs.Growth.{mark_of, is_covered, AreListed, Meets, MeetsOther, IsVerdict, Judges, CoversMore, IsNamedBy}
use Rattle.prs_rounds.specs.declared.mark.Mark.{Mark}
use Rattle.prs_rounds.specs.declared.mark.Mark.TheVariants.{Free, Joined, Excluded}
use Rattle.prs_rounds.specs.declared.growth.Growth.{Growth}
use Rattle.prs_rounds.proofs.Fates.{one_fate}

-- an event of this unit
abbrev pub with_cube : ℕ → Cube → Event
with_cube u e = record { unit = u; cube = e }

-- the mark tells the fate
abbrev pub IsMark : (Fate → Event → Type 0) → Event → Mark → Type 0
IsMark has e Free = (f : Fate) → has f e → ⊥
IsMark has e Joined = has Joins e
IsMark has e Excluded = has Leaves e

-- some event of the set names the variable
abbrev pub IsNamedIn : (Event → Type 0) → ℕ → Type 0
IsNamedIn set v = (f : Event) × set f × (names f.cube v ≡ true)

-- the marks and the covered variables are those after n steps
pub record AreMarks (i : Instance) (rows : List (ℕ × Cube)) (c : List ℕ) (n : ℕ) (g : Growth) : Type 0 where
  pub marks : (u : ℕ) → u < length rows → IsMark (HasFate i c n) (event_at rows u) (mark_of g u)
  pub covered : (v : ℕ) → is_covered g v ≡ true ↔ IsNamedIn (HasFate i c n Joins) v

module _ (s : StackTable) (rows : List (ℕ × Cube)) (c values : List ℕ) (n : ℕ) (old new : Growth)
    (are : AreValues s c values) (fits : All (λ r. NamesBelow r.1 (length c)) rows)
    (marks : AreMarks (record { stacks = s; family = Listed rows }) rows c n old)
    (judges : Judges rows values old new) where
  -- the instance of these events
  abbrev i : Instance
  i = record { stacks = s; family = Listed rows }

  -- a cube that names a covered variable touches the set
  touches_from : (u : ℕ) → Meets old (cube_at rows u) → Touches (HasFate i c n Joins) (event_at rows u)
  touches_from u (p, has, is) =
      let f = (marks.covered p.0).0 is in
      let y = named f.0.cube p.0 f.2 in
      (f.0, f.1, (p.0, p.1, y.0, has, y.1))

  -- the value of a variable of an event
  value_is : (u : ℕ) → u < length rows → (p : ℕ × ℕ) → Contains (cube_at rows u) p
      → slice_index values p.0 ≡ value_at s p.0 (cursor c p.0)
  value_is u within p has =
      are.each p.0 (All-contains (λ (q : ℕ × ℕ). q.0 < length c) (cube_at rows u) p (fits u (0, []) within) has)

  -- what meets another value differs from the set
  differs_from : (u : ℕ) → u < length rows → MeetsOther values old (cube_at rows u)
      → Differs s c (HasFate i c n Joins) (event_at rows u)
  differs_from u within (p, has, is, other) =
      let f = (marks.covered p.0).0 is in
      (f.0, f.1, p.0, p.1, has, f.2, λ same. other (value_is u within p has ∙ same))

  -- and the other way round
  differs_to : (u : ℕ) → u < length rows → Differs s c (HasFate i c n Joins) (event_at rows u)
      → MeetsOther values old (cube_at rows u)
  differs_to u within (f, joined, v, x, has, is, other) =
      ((v, x), has, (marks.covered v).1 (f, joined, is), λ same. other (sym (value_is u within (v, x) has) ∙ same))

  -- an event that was free and names a covered variable is looked at
  looked_from : (u : ℕ) → u < length rows → mark_of old u ≡ Free → Meets old (cube_at rows u)
      → IsLookedAt i (HasFate i c n) (event_at rows u)
  looked_from u within was meets =
      let free : IsMark (HasFate i c n) (event_at rows u) Free =
      subst (IsMark (HasFate i c n) (event_at rows u)) was (marks.marks u within) in
      record {
        event = event_from rows (event_at rows u) within refl;
        free = free;
        touches = touches_from u meets;
      }

  -- and the other way round
  meets_from : (u : ℕ) → IsLookedAt i (HasFate i c n) (event_at rows u) → Meets old (cube_at rows u)
  meets_from u looked = shared looked.touches.0 looked.touches.1 looked.touches.2
    where
      shared : (f : Event) → HasFate i c n Joins f → Share (cube_at rows u) f.cube → Meets old (cube_at rows u)
      shared f joined (v, x, y, here, there) =
          ((v, x), here, (marks.covered v).1 (f, joined, names_it f.cube (v, y) there))

  -- a verdict tells the fate after the step
  by_verdict : (u : ℕ) → u < length rows → mark_of old u ≡ Free → (m : Mark)
      → IsVerdict values old (cube_at rows u) m → IsMark (HasFate i c (suc n)) (event_at rows u) m
  by_verdict u within was Free verdict = absurd verdict
  by_verdict u within was Joined verdict =
      inr (looked_from u within was verdict.0, λ differs. verdict.1 (differs_to u within differs))
  by_verdict u within was Excluded verdict =
      inr (looked_from u within was verdict.0, differs_from u within verdict.1)

  -- a mark that was made before tells the fate after the step
  by_kept : (u : ℕ) → (m : Mark) → m ≢ Free → IsMark (HasFate i c n) (event_at rows u) m
      → IsMark (HasFate i c (suc n)) (event_at rows u) m
  by_kept u Free some is = absurd (some refl)
  by_kept u Joined some is = inl is
  by_kept u Excluded some is = inl is

  module _ (judged : (u : ℕ) → u < length rows → Meets old (cube_at rows u) → mark_of new u ≢ Free) where
    -- an event that is still free has no fate after the step
    still_free : (u : ℕ) → u < length rows → mark_of old u ≡ Free → mark_of new u ≡ Free
        → IsMark (HasFate i c (suc n)) (event_at rows u) Free
    still_free u within was is f = none f
      where
        free : IsMark (HasFate i c n) (event_at rows u) Free
        free = subst (IsMark (HasFate i c n) (event_at rows u)) was (marks.marks u within)

        none : (g : Fate) → HasFate i c (suc n) g (event_at rows u) → ⊥
        none Joins h = elim h [
          | inl before ↦ free Joins before
          | inr now ↦ judged u within (meets_from u now.0) is
        ]
        none Leaves h = elim h [
          | inl before ↦ free Leaves before
          | inr now ↦ judged u within (meets_from u now.0) is
        ]

    -- the marks after the step
    pub marks_after : (u : ℕ) → u < length rows → IsMark (HasFate i c (suc n)) (event_at rows u) (mark_of new u)
    marks_after u within = by_old (mark_of old u) refl
      where
        by_new : mark_of old u ≡ Free → (m : Mark) → mark_of new u ≡ m
            → IsMark (HasFate i c (suc n)) (event_at rows u) (mark_of new u)
        by_new was Free is = subst (IsMark (HasFate i c (suc n)) (event_at rows u)) (sym is)
            (still_free u within was is)
        by_new was Joined is = by_verdict u within was (mark_of new u)
            (judges.right u was (λ e. let no : Joined ≡ Free = sym is ∙ e in cc))
        by_new was Excluded is = by_verdict u within was (mark_of new u)
            (judges.right u was (λ e. let no : Excluded ≡ Free = sym is ∙ e in cc))

        stays : (m : Mark) → mark_of old u ≡ m → m ≢ Free → IsMark (HasFate i c (suc n)) (event_at rows u)
            (mark_of new u)
        stays m was some =
            let kept : mark_of new u ≡ m = judges.kept u (λ e. some (sym was ∙ e)) ∙ was in
            subst (IsMark (HasFate i c (suc n)) (event_at rows u)) (sym kept)
            (by_kept u m some (subst (IsMark (HasFate i c n) (event_at rows u)) was (marks.marks u within)))

        by_old : (m : Mark) → mark_of old u ≡ m → IsMark (HasFate i c (suc n)) (event_at rows u) (mark_of new u)
        by_old Free was = by_new was (mark_of new u) refl
        by_old Joined was = stays Joined was (λ e. cc)
        by_old Excluded was = stays Excluded was (λ e. cc)

module _ (s : StackTable) (rows : List (ℕ × Cube)) (c values : List ℕ) (n : ℕ) (old mid new : Growth) (count : ℕ)
    (are : AreValues s c values) (fits : All (λ r. NamesBelow r.1 (length c)) rows)
    (marks : AreMarks (record { stacks = s; family = Listed rows }) rows c n old)
    (judges : Judges rows values old mid) (listed : AreListed (length rows) count mid)
    (judged : (u : ℕ) → u < length rows → Meets old (cube_at rows u) → mark_of mid u ≢ Free)
    (covers : CoversMore (IsNamedBy rows mid.fresh.items) mid new) where
  -- the instance of these events
  abbrev of_rows : Instance
  of_rows = record { stacks = s; family = Listed rows }

  -- the marks tell the fates after the step
  at_mid : (u : ℕ) → u < length rows → IsMark (HasFate of_rows c (suc n)) (event_at rows u) (mark_of mid u)
  at_mid u within = marks_after s rows c values n old mid are fits marks judges judged u within

  -- a covered variable is one of an event of the set
  covered_to : (v : ℕ) → is_covered new v ≡ true → IsNamedIn (HasFate of_rows c (suc n) Joins) v
  covered_to v is = elim (covers.only v is) [
    | inl before ↦
        let f = (marks.covered v).0 (ap (λ x. get_or x.items v false) (sym judges.covered) ∙ before) in
        (f.0, inl f.1, f.2)
    | inr now ↦
        let u : ℕ = now.0 in
        let within : u < length rows = All-contains (λ w. w < length rows) mid.fresh.items u listed.known_fresh now.1 in
        let has : HasFate of_rows c (suc n) Joins (event_at rows u) =
        subst (IsMark (HasFate of_rows c (suc n)) (event_at rows u)) (listed.joined u now.1) (at_mid u within) in
        (event_at rows u, has, now.2)
  ]

  -- and the other way round
  covered_from : (v : ℕ) → IsNamedIn (HasFate of_rows c (suc n) Joins) v → is_covered new v ≡ true
  covered_from v (f, has, is) = elim has [
    | inl before ↦ covers.kept v (ap (λ x. get_or x.items v false) judges.covered ∙ (marks.covered v).1 (f, before, is))
    | inr now ↦
        let at = event_to rows f now.0.event in
        let u : ℕ = f.unit in
        let same : f ≡ event_at rows u = ap (λ (e : Cube). with_cube u e) (sym at.cube) in
        let was : mark_of old u ≡ Free = was_free u at.within
        (subst (λ (x : Event). (g : Fate) → HasFate of_rows c n g x → ⊥) same now.0.free) in
        let joined : mark_of mid u ≡ Joined = is_joined u at.within
        (subst (HasFate of_rows c (suc n) Joins) same (inr now)) (mark_of mid u) refl in
        covers.gained v (u, judges.fresh u was joined, ap (λ (e : Cube). names e v) at.cube ∙ is)
  ]
    where
      was_free : (w : ℕ) → w < length rows → ((g : Fate) → HasFate of_rows c n g (event_at rows w) → ⊥)
          → mark_of old w ≡ Free
      was_free w within free = by_mark (mark_of old w) refl
        where
          by_mark : (m : Mark) → mark_of old w ≡ m → mark_of old w ≡ Free
          by_mark Free is_m = is_m
          by_mark Joined is_m = absurd (free Joins (subst (IsMark (HasFate of_rows c n) (event_at rows w)) is_m
              (marks.marks w within)))
          by_mark Excluded is_m = absurd (free Leaves (subst (IsMark (HasFate of_rows c n) (event_at rows w)) is_m
              (marks.marks w within)))

      is_joined : (w : ℕ) → w < length rows → HasFate of_rows c (suc n) Joins (event_at rows w) → (m : Mark)
          → mark_of mid w ≡ m
          → mark_of mid w ≡ Joined
      is_joined w within fate Free is_m =
          absurd (subst (IsMark (HasFate of_rows c (suc n)) (event_at rows w)) is_m (at_mid w within) Joins fate)
      is_joined w within fate Joined is_m = is_m
      is_joined w within fate Excluded is_m =
          absurd (one_fate of_rows c (suc n) (event_at rows w) fate
          (subst (IsMark (HasFate of_rows c (suc n)) (event_at rows w)) is_m (at_mid w within)))

  -- the marks and the covered variables after the step
  pub step_marks : AreMarks of_rows rows c (suc n) new
  step_marks = record {
    marks = λ u within. rw covers.marks (at_mid u within);
    covered = λ v. (covered_to v, covered_from v);
  }
