-- Marks at the beginning of the search, where just the events that occur have joined, and at its end, where no event is
-- left to look at.
use Rattle.std.proofs.Common.{◌≡◌, ◌≢◌, ℕ, zero, ◌<◌, true, List, length, refl, sym, ap, subst, ◌∙◌, Contains}
use Rattle.std.proofs.lemmas.List.Elements.{All-contains}
use Rattle.pop_model.specs.Stacks.{StackTable}
use Rattle.pop_model.specs.Popping.{Cube, Occurs, names}
use Rattle.pop_model.specs.Families.{Event}
use Rattle.pop_model.specs.Families.Family.{Listed}
use Rattle.pop_model.specs.Instances.{Instance}
use Rattle.pop_model.specs.Extremal.{Share}
use Rattle.pop_model.proofs.Diamond.{names_it}
use Rattle.pop_instance.specs.Events.{cube_at}
use Rattle.confluence_core.proofs.Places.{StandsIn, event_at, event_from, event_to}
use Rattle.prs_rounds.specs.Resampling.{OccursIn, HasFate, IsResampled}
use Rattle.prs_rounds.specs.Resampling.Fate.{Joined as Joins, Excluded as Leaves}
use Rattle.prs_rounds.specs.Growth.{mark_of, is_covered, Meets, Begins}
use Rattle.prs_rounds.specs.Grown.{IsGrown, StartsAt}
use Rattle.prs_rounds.specs.declared.mark.Mark.{Mark}
use Rattle.prs_rounds.specs.declared.mark.Mark.TheVariants.{Free, Joined, Excluded}
use Rattle.prs_rounds.specs.declared.growth.Growth.{Growth}
use Rattle.prs_rounds.proofs.Fates.{one_fate, HasEnded, resampled_by_then}
use Rattle.prs_rounds.proofs.MarkedSteps.{with_cube, IsMark, IsNamedIn, AreMarks}

-- the places are those of the events that occur, and the values are the current ones
module _ (s : StackTable) (rows : List (ℕ × Cube)) (c values places : List ℕ) (g : Growth)
    (starts : StartsAt s rows c values places) (begins : Begins rows places g) where
  -- the instance of these events
  abbrev of_start : Instance
  of_start = record { stacks = s; family = Listed rows }

  -- the events that joined first are those that occur
  pub first_marks : AreMarks of_start rows c zero g
  first_marks = record {
    marks = λ u within. by_mark u within (mark_of g u) refl;
    covered = λ v. (to v, from v);
  }
    where
      by_mark : (u : ℕ) → u < length rows → (m : Mark) → mark_of g u ≡ m
          → IsMark (HasFate of_start c zero) (event_at rows u) (mark_of g u)
      by_mark u within Free is = subst (IsMark (HasFate of_start c zero) (event_at rows u)) (sym is) free
        where
          none : OccursIn of_start c (event_at rows u) → ⊥
          none h =
              let has = (starts.exact u within).1 h.occurs in
              let joined = All-contains (λ w. mark_of g w ≡ Joined) places u begins.joined has in
              let no : Joined ≡ Free = sym joined ∙ is in cc

          free : IsMark (HasFate of_start c zero) (event_at rows u) Free
          free Joins h = none h
          free Leaves h = h
      by_mark u within Joined is = subst (IsMark (HasFate of_start c zero) (event_at rows u)) (sym is) (record {
        event = event_from rows (event_at rows u) within refl;
        occurs = (starts.exact u within).0 (begins.only u (λ free. let no : Joined ≡ Free = sym is ∙ free in cc));
      })
      by_mark u within Excluded is =
          let has = begins.only u (λ free. let no : Excluded ≡ Free = sym is ∙ free in cc) in
          let joined = All-contains (λ w. mark_of g w ≡ Joined) places u begins.joined has in
          absurd (let no : Joined ≡ Excluded = sym joined ∙ is in cc)

      to : (v : ℕ) → is_covered g v ≡ true → IsNamedIn (HasFate of_start c zero Joins) v
      to v is =
          let by = (begins.covered v).0 is in
          let u : ℕ = by.0 in
          let joined = All-contains (λ w. mark_of g w ≡ Joined) places u begins.joined by.1 in
          let within : u < length rows = starts.known u by.1 in (
            event_at rows u,
            record {
              event = event_from rows (event_at rows u) within refl;
              occurs = (starts.exact u within).0 by.1;
            },
            by.2,
          )

      from : (v : ℕ) → IsNamedIn (HasFate of_start c zero Joins) v → is_covered g v ≡ true
      from v (f, occurs, is) =
          let at = event_to rows f occurs.event in
          let has = (starts.exact f.unit at.within).1 (subst (Occurs s c) (sym at.cube) occurs.occurs) in
          (begins.covered v).1 (f.unit, has, ap (λ (e : Cube). names e v) at.cube ∙ is)

-- where each event that meets a covered variable is judged, the search is over
module _ (s : StackTable) (rows : List (ℕ × Cube)) (c : List ℕ) (n : ℕ) (g : Growth)
    (marks : AreMarks (record { stacks = s; family = Listed rows }) rows c n g)
    (judged : (u : ℕ) → u < length rows → Meets g (cube_at rows u) → mark_of g u ≢ Free) where
  -- the instance of these events
  abbrev of_end : Instance
  of_end = record { stacks = s; family = Listed rows }

  -- a mark tells the fate
  mark_tells : (u : ℕ) → u < length rows → (m : Mark) → mark_of g u ≡ m
      → IsMark (HasFate of_end c n) (event_at rows u) m
  mark_tells u within m is = subst (IsMark (HasFate of_end c n) (event_at rows u)) is (marks.marks u within)

  -- no event is left to look at
  ended : HasEnded of_end c n
  ended e looked = at_event (mark_of g e.unit) refl
    where
      at : StandsIn rows e
      at = event_to rows e looked.event

      same : event_at rows e.unit ≡ e
      same = ap (λ (x : Cube). with_cube e.unit x) (event_to rows e looked.event).cube

      meets : Meets g (cube_at rows e.unit)
      meets = shared looked.touches.0 looked.touches.1 looked.touches.2
        where
          shared : (f : Event) → HasFate of_end c n Joins f → Share e.cube f.cube → Meets g (cube_at rows e.unit)
          shared f joined (v, x, y, here, there) = (
            (v, x),
            subst (λ (k : Cube). Contains k (v, x)) (sym (event_to rows e looked.event).cube) here,
            (marks.covered v).1 (f, joined, names_it f.cube (v, y) there),
          )

      at_event : (m : Mark) → mark_of g e.unit ≡ m → ⊥
      at_event Free is = judged e.unit (event_to rows e looked.event).within meets is
      at_event Joined is = looked.free Joins (subst (HasFate of_end c n Joins) same
          (mark_tells e.unit (event_to rows e looked.event).within Joined is))
      at_event Excluded is = looked.free Leaves (subst (HasFate of_end c n Leaves) same
          (mark_tells e.unit (event_to rows e looked.event).within Excluded is))

  -- the search has found the resampling set
  pub grown_at_end : IsGrown of_end rows c g
  grown_at_end = record {
    joined = λ u within. (λ is. (n, mark_tells u within Joined is), from u within (mark_of g u) refl);
    covered = λ v. (
      λ is. let f = (marks.covered v).0 is in (f.0, (n, f.1), f.2),
      λ h. (marks.covered v).1 (h.0, resampled_by_then of_end c n ended h.0 h.1, h.2),
    );
    met = judged;
  }
    where
      from : (u : ℕ) → u < length rows → (m : Mark) → mark_of g u ≡ m → IsResampled of_end c (event_at rows u)
          → mark_of g u ≡ Joined
      from u within Free is h = absurd (mark_tells u within Free is Joins
          (resampled_by_then of_end c n ended (event_at rows u) h))
      from u within Joined is h = is
      from u within Excluded is h = absurd (one_fate of_end c n (event_at rows u)
          (resampled_by_then of_end c n ended (event_at rows u) h) (mark_tells u within Excluded is))
