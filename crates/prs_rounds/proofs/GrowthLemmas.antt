-- What a mark and a covered variable more do to a search, and how such changes follow one another.
use Rattle.std.proofs.Common.{inl, inr, ◌≡◌, ◌≢◌, ◌⊎◌, ℕ, ◌<◌, true, false, List, [], ◌∷◌, ◌++◌, length, get_or, refl, sym, ap, subst, ◌∙◌, arith, All, Contains, get_or-set_other}
use Rattle.std.proofs.lemmas.Bool.{cases_eq}
use Rattle.std.proofs.lemmas.List.{length-set, get_or-set_same, get_or_default}
use Rattle.std.proofs.lemmas.List.Elements.{All-push, All-weaker, Contains-push, Contains-push_cases, Contains-append_left, Contains-get_or, All-contains}
use Rattle.pop_model.specs.Popping.{Cube}
use Rattle.pop_model.proofs.Diamond.{named, names_it}
use Rattle.pop_instance.specs.Events.{cube_at}
use Rattle.pop_instance.specs.Index.{IsIndex}
use Rattle.prs_rounds.specs.Growth.{mark_of, is_covered, fresh_after, AreListed, IsMarked, Meets, MeetsOther, IsVerdict, Judges, AreJudged}
use Rattle.prs_rounds.specs.declared.mark.Mark.{Mark}
use Rattle.prs_rounds.specs.declared.mark.Mark.TheVariants.{Free, Joined, Excluded}
use Rattle.prs_rounds.specs.declared.growth.Growth.{Growth}

-- a mark that isn't free
abbrev pub IsMade : Mark → Type 0
IsMade m = m ≢ Free

module _ (n count u : ℕ) (m : Mark) (old new : Growth) (within : u < n) (listed : AreListed n count old)
    (marked : IsMarked u m old new) where
  -- the event has a mark
  inside : u < length old.marks.items
  inside = omega (arith, within, listed.marks)

  -- the event has the mark
  pub mark_here : mark_of new u ≡ m
  mark_here = ap (λ xs. get_or xs u Free) marked.marks ∙ get_or-set_same old.marks.items u m Free inside

  -- all others keep theirs
  pub mark_there : (w : ℕ) → w ≢ u → mark_of new w ≡ mark_of old w
  mark_there w other = ap (λ xs. get_or xs w Free) marked.marks ∙ get_or-set_other old.marks.items u w m Free other

  -- what was fresh stays fresh
  fresh_kept : (w : ℕ) → Contains old.fresh.items w → Contains new.fresh.items w
  fresh_kept w has = subst (λ xs. Contains xs w) (sym marked.fresh) (by_mark m)
    where
      by_mark : (k : Mark) → Contains (fresh_after k u old.fresh.items) w
      by_mark Free = has
      by_mark Joined = Contains-append_left old.fresh.items (u ∷ []) w has
      by_mark Excluded = has

  -- what is fresh was so before, or joins now
  fresh_cases : (w : ℕ) → Contains new.fresh.items w → Contains old.fresh.items w ⊎ ((w ≡ u) × (m ≡ Joined))
  fresh_cases w has = by_mark m refl (subst (λ xs. Contains xs w) marked.fresh has)
    where
      by_mark : (k : Mark) → m ≡ k → Contains (fresh_after k u old.fresh.items) w
          → Contains old.fresh.items w ⊎ ((w ≡ u) × (m ≡ Joined))
      by_mark Free is h = inl h
      by_mark Joined is h = elim (Contains-push_cases old.fresh.items u w h) [
        | inl before ↦ inl before
        | inr here ↦ inr (sym here, is)
      ]
      by_mark Excluded is h = inl h

  -- all is listed again
  pub listed_marked : mark_of old u ≡ Free → AreListed n count new
  listed_marked free = record {
    marks = ap length marked.marks ∙ length-set old.marks.items u m ∙ listed.marks;
    covered = ap (λ c. length c.items) marked.covered ∙ listed.covered;
    known_events = subst (All (λ w. w < n)) (sym marked.looked)
        (All-push (λ w. w < n) old.looked.items u listed.known_events within);
    known_fresh = subst (All (λ w. w < n)) (sym marked.fresh) (known m);
    known_variables = rw marked.variables listed.known_variables;
    looked = λ w made. elim (cases_eq w u) [
      | inl here ↦ subst (λ xs. Contains xs w) (sym marked.looked)
          (subst (λ x. Contains (old.looked.items ++ u ∷ []) x) (sym here) (Contains-push old.looked.items u))
      | inr other ↦ subst (λ xs. Contains xs w) (sym marked.looked)
          (Contains-append_left old.looked.items (u ∷ []) w (listed.looked w (λ is. made (mark_there w other ∙ is))))
    ];
    joined = λ w has. elim (fresh_cases w has) [
      | inl before ↦
          let other : w ≢ u = λ here. let is : Joined ≡ Free = sym (listed.joined w before) ∙ ap (mark_of old) here
          ∙ free in cc in
          mark_there w other ∙ listed.joined w before
      | inr now ↦ ap (mark_of new) now.0 ∙ mark_here ∙ now.1
    ];
    variables = λ v is. rw marked.variables (listed.variables v (ap (λ c. get_or c.items v false) (sym marked.covered)
        ∙ is));
    differ = rw marked.variables listed.differ;
    are_covered = λ v has. ap (λ c. get_or c.items v false) marked.covered
        ∙ listed.are_covered v (rw (← marked.variables) has);
  }
    where
      known : (k : Mark) → All (λ w. w < n) (fresh_after k u old.fresh.items)
      known Free = listed.known_fresh
      known Joined = All-push (λ w. w < n) old.fresh.items u listed.known_fresh within
      known Excluded = listed.known_fresh

  -- a free event that gets its verdict is judged
  pub judges_marked : (rows : List (ℕ × Cube)) (values : List ℕ) → mark_of old u ≡ Free
      → IsVerdict values old (cube_at rows u) m → Judges rows values old new
  judges_marked rows values free verdict = record {
    covered = marked.covered;
    variables = marked.variables;
    kept = λ w made. mark_there w (λ here. made (ap (mark_of old) here ∙ free));
    right = λ w was made. elim (cases_eq w u) [
      | inl here ↦
          let is : m ≡ mark_of new w = sym mark_here ∙ ap (mark_of new) (sym here) in
          subst (λ k. IsVerdict values old (cube_at rows w) k) is
          (subst (λ x. IsVerdict values old (cube_at rows x) m) (sym here) verdict)
      | inr other ↦ absurd (made (mark_there w other ∙ was))
    ];
    fresh = λ w was joined. elim (cases_eq w u) [
      | inl here ↦ here_fresh w here (sym mark_here ∙ ap (mark_of new) (sym here) ∙ joined)
      | inr other ↦ absurd (let is : Joined ≡ Free = sym joined ∙ mark_there w other ∙ was in cc)
    ];
    fresh_kept = fresh_kept;
  }
    where
      here_fresh : (w : ℕ) → w ≡ u → m ≡ Joined → Contains new.fresh.items w
      here_fresh w here is = subst (λ xs. Contains xs w) (sym (marked.fresh
          ∙ ap (λ k. fresh_after k u old.fresh.items) is))
          (subst (λ x. Contains (old.fresh.items ++ u ∷ []) x) (sym here) (Contains-push old.fresh.items u))

-- nothing is judged
pub judges_none : (rows : List (ℕ × Cube)) (values : List ℕ) (g : Growth) → Judges rows values g g
judges_none rows values g = record {
  covered = refl;
  variables = refl;
  kept = λ u made. refl;
  right = λ u was made. absurd (made was);
  fresh = λ u was joined. absurd (let is : Joined ≡ Free = sym joined ∙ was in cc);
  fresh_kept = λ u has. has;
}

-- a mark is free or it isn't
pub free_or_made : (m : Mark) → (m ≡ Free) ⊎ (m ≢ Free)
free_or_made Free = inl refl
free_or_made Joined = inr (λ e. cc)
free_or_made Excluded = inr (λ e. cc)

-- what meets a covered variable goes on to meet one
pub meets_after : (rows : List (ℕ × Cube)) (values : List ℕ) (a b : Growth) → Judges rows values a b
    → (e : Cube) → Meets a e → Meets b e
meets_after rows values a b first e (p, has, is) = (p, has, ap (λ x. get_or x.items p.0 false) first.covered ∙ is)

-- each event in the row of a covered variable meets it
pub row_meets : (rows : List (ℕ × Cube)) (index : List (List ℕ)) (g : Growth) → IsIndex rows index → (v : ℕ)
    → v < length index → is_covered g v ≡ true → All (λ u. Meets g (cube_at rows u)) (get_or index v [])
row_meets rows index g is v below covered k d h =
    let u : ℕ = get_or (get_or index v []) k d in
    let there = ((is.exact v u below).0 (Contains-get_or (get_or index v []) k d h)).1 in
    let x = named (cube_at rows u) v there in
    ((v, x.0), x.1, covered)

module _ (rows : List (ℕ × Cube)) (values : List ℕ) (a b c : Growth) (first : Judges rows values a b)
    (then_ : Judges rows values b c) where
  -- a mark that is made stays made
  pub stays_made : (u : ℕ) → mark_of b u ≢ Free → mark_of c u ≢ Free
  stays_made u made is = made (sym (then_.kept u made) ∙ is)

  -- judging covers no variable
  same_cover : (v : ℕ) → is_covered b v ≡ is_covered a v
  same_cover v = ap (λ x. get_or x.items v false) first.covered

  -- what meets a covered variable after the first judging met one before
  meets_before : (e : Cube) → Meets b e → Meets a e
  meets_before e (p, has, is) = (p, has, sym (same_cover p.0) ∙ is)

  -- what meets another value after it met one before
  other_before : (e : Cube) → MeetsOther values b e → MeetsOther values a e
  other_before e (p, has, is, other) = (p, has, sym (same_cover p.0) ∙ is, other)

  -- and the other way round
  other_after : (e : Cube) → MeetsOther values a e → MeetsOther values b e
  other_after e (p, has, is, other) = (p, has, same_cover p.0 ∙ is, other)

  -- a verdict by the covered variables of before
  verdict_before : (e : Cube) (m : Mark) → IsVerdict values b e m → IsVerdict values a e m
  verdict_before e Free verdict = absurd verdict
  verdict_before e Joined verdict = (meets_before e verdict.0, λ other. verdict.1 (other_after e other))
  verdict_before e Excluded verdict = (meets_before e verdict.0, other_before e verdict.1)

  -- two judgings, one after the other, are one
  pub judges_both : Judges rows values a c
  judges_both = record {
    covered = then_.covered ∙ first.covered;
    variables = then_.variables ∙ first.variables;
    kept = λ u made. then_.kept u (λ is. made (sym (first.kept u made) ∙ is)) ∙ first.kept u made;
    right = λ u was made. elim (free_or_made (mark_of b u)) [
      | inl free ↦ verdict_before (cube_at rows u) (mark_of c u) (then_.right u free made)
      | inr made_b ↦ subst (IsVerdict values a (cube_at rows u)) (sym (then_.kept u made_b)) (first.right u was made_b)
    ];
    fresh = λ u was joined. elim (free_or_made (mark_of b u)) [
      | inl free ↦ then_.fresh u free joined
      | inr made_b ↦ then_.fresh_kept u (first.fresh u was (sym (then_.kept u made_b) ∙ joined))
    ];
    fresh_kept = λ u has. then_.fresh_kept u (first.fresh_kept u has);
  }

-- where the rows of all covered variables are judged, each event that meets one is
pub met_judged : (rows : List (ℕ × Cube)) (index : List (List ℕ)) (count : ℕ) (old new : Growth) → IsIndex rows index
    → AreListed (length rows) count old
    → ((k : ℕ) → k < length old.variables.items → AreJudged new (get_or index (get_or old.variables.items k 0) []))
    → (u : ℕ) → u < length rows → Meets old (cube_at rows u) → mark_of new u ≢ Free
met_judged rows index count old new is listed judged u within (p, has, covered) =
    let place = listed.variables p.0 covered in
    let k : ℕ = place.0 in
    let at : get_or old.variables.items k 0 ≡ p.0 = get_or_default old.variables.items k 0 p.0 place.1 ∙ place.2 in
    let row : AreJudged new (get_or index p.0 []) = subst (λ v. AreJudged new (get_or index v [])) at
    (judged k place.1) in
    let below : p.0 < length index = All-contains (λ (q : ℕ × ℕ). q.0 < length index) (cube_at rows u) p
    (is.below u (0, []) within) has in
    let there : Contains (get_or index p.0 []) u = (is.exact p.0 u below).1 (within, names_it (cube_at rows u) p has) in
    All-contains (λ w. mark_of new w ≢ Free) (get_or index p.0 []) u row there

-- judging frees no event
pub stays_judged : (rows : List (ℕ × Cube)) (values : List ℕ) (old new : Growth) → Judges rows values old new
    → (places : List ℕ) → AreJudged old places → AreJudged new places
stays_judged rows values old new judges places judged =
    All-weaker (λ u. mark_of old u ≢ Free) (λ u. mark_of new u ≢ Free)
    (stays_made rows values old old new (judges_none rows values old) judges) places judged
