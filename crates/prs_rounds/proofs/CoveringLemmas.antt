-- Variables that are covered, one after another.
use Rattle.std.proofs.Common.{inl, inr, ◌≡◌, ◌≢◌, ◌⊎◌, ℕ, ◌+◌, ◌<◌, Bool, true, false, not, cond, ◌==◌, ◌||◌, eqb-true, eq-eqb, List, [], ◌∷◌, ◌++◌, length, take, set, get_or, refl, sym, ap, subst, ◌∙◌, arith, All, Contains, get_or-set_other, length-append}
use Rattle.std.specs.Prelude.{count_by, AllPairs}
use Rattle.std.proofs.lemmas.Bool.{cases_eq, cases_Bool, false≢true}
use Rattle.std.proofs.lemmas.List.{length-set, get_or-set_same, get_or_append_left}
use Rattle.std.proofs.lemmas.List.Elements.{All-push, Contains-push, Contains-push_cases, Contains-append_left, Contains-get_or}
use Rattle.std.proofs.lemmas.List.Quantifiers.{all_pairs_push}
use Rattle.std.proofs.lemmas.List.Sums.{sum_by-set}
use Rattle.std.proofs.lemmas.List.Folds.{list_any_more}
use Rattle.pop_model.specs.Popping.{Cube, names}
use Rattle.pop_model.proofs.Rising.{member_cases, head_member, tail_member}
use Rattle.pop_instance.specs.Events.{cube_at}
use Rattle.prs_rounds.specs.Growth.{is_covered, uncovered, AreListed, IsCoveredToo, CoversOne, CoversMore, IsNamedBy}
use Rattle.prs_rounds.specs.declared.growth.Growth.{Growth}

-- one flag that is set makes one fewer that isn't
count_set : (flags : List Bool) (v : ℕ) → v < length flags → get_or flags v false ≡ false
    → count_by not (set flags v true) + 1 ≡ count_by not flags
count_set flags v within off =
    let swap = sum_by-set (λ (b : Bool). cond (not b) 1 0) flags v true false within in
    let one : ℕ = 1 in
    let here : cond (not (get_or flags v false)) 1 0 ≡ one = ap (λ b. cond (not b) 1 0) off in
    omega (arith, swap, here)

-- nothing is covered
pub covers_none : (Is : ℕ → Type 0) → ((v : ℕ) → Is v → ⊥) → (g : Growth) → CoversMore Is g g
covers_none Is none g = record {
  marks = refl;
  looked = refl;
  kept = λ v is. is;
  gained = λ v is. absurd (none v is);
  only = λ v is. inl is;
  place = λ k h. refl;
  size = refl;
  long = omega arith;
}

-- what is covered in two steps
pub covers_both : (Is Then Both : ℕ → Type 0) (a b c : Growth) → ((v : ℕ) → Both v → Is v ⊎ Then v)
    → ((v : ℕ) → Is v → Both v) → ((v : ℕ) → Then v → Both v)
    → CoversMore Is a b → CoversMore Then b c → CoversMore Both a c
covers_both Is Then Both a b c split left right first next = record {
  marks = next.marks ∙ first.marks;
  looked = next.looked ∙ first.looked;
  kept = λ v is. next.kept v (first.kept v is);
  gained = λ v both. elim (split v both) [
    | inl is ↦ next.kept v (first.gained v is)
    | inr is ↦ next.gained v is
  ];
  only = λ v is. elim (next.only v is) [
    | inl before ↦ elim (first.only v before) [
      | inl long_before ↦ inl long_before
      | inr by_first ↦
          inr (left v by_first)
    ]
    | inr by_next ↦ inr (right v by_next)
  ];
  place = λ k h. let far : k < length b.variables.items = omega (arith, h, first.long) in next.place k far
      ∙ first.place k h;
  size = next.size ∙ first.size;
  long = omega (arith, first.long, next.long);
}

module _ (v : ℕ) (old new : Growth) (inside : v < length old.covered.items) (off : is_covered old v ≡ false)
    (more : IsCoveredToo v old new) where
  -- the variable is covered
  here : is_covered new v ≡ true
  here = ap (λ xs. get_or xs v false) more.covered ∙ get_or-set_same old.covered.items v true false inside

  -- each other variable is as it was
  there : (w : ℕ) → w ≢ v → is_covered new w ≡ is_covered old w
  there w other = ap (λ xs. get_or xs w false) more.covered ∙ get_or-set_other old.covered.items v w true false other

  -- one variable more is covered
  pub covers_too : CoversMore (λ w. w ≡ v) old new
  covers_too = record {
    marks = more.marks;
    looked = more.looked;
    kept = λ w is. elim (cases_eq w v) [
      | inl same ↦ ap (is_covered new) same ∙ here
      | inr other ↦ there w other ∙ is
    ];
    gained = λ w same. ap (is_covered new) same ∙ here;
    only = λ w is. elim (cases_eq w v) [
      | inl same ↦ inr same
      | inr other ↦ inl (sym (there w other) ∙ is)
    ];
    place = λ k h. ap (λ (xs : List ℕ). get_or xs k 0) more.variables
        ∙ get_or_append_left old.variables.items (v ∷ []) 0 k h;
    size =
        let fewer = count_set old.covered.items v inside off in
        let flags : uncovered new ≡ count_by not (set old.covered.items v true) = ap (count_by not) more.covered in
        let size : length new.variables.items ≡ length old.variables.items + 1 = ap length more.variables
        ∙ length-append old.variables.items (v ∷ []) in
        omega (arith, fewer, flags, size);
    long = omega (arith, ap length more.variables, length-append old.variables.items (v ∷ []));
  }

  -- and all is listed again
  pub listed_covered : (n count : ℕ) → v < count → AreListed n count old → AreListed n count new
  listed_covered n count within listed = record {
    marks = rw more.marks listed.marks;
    covered = ap length more.covered ∙ length-set old.covered.items v true ∙ listed.covered;
    known_events = rw more.looked listed.known_events;
    known_fresh = rw more.fresh listed.known_fresh;
    known_variables = subst (All (λ w. w < count)) (sym more.variables)
        (All-push (λ w. w < count) old.variables.items v listed.known_variables within);
    looked = rw (more.looked, more.marks) listed.looked;
    joined = rw (more.fresh, more.marks) listed.joined;
    variables = λ w is. subst (λ xs. Contains xs w) (sym more.variables) (elim (cases_eq w v) [
      | inl same ↦ subst (λ x. Contains (old.variables.items ++ v ∷ []) x) (sym same)
          (Contains-push old.variables.items v)
      | inr other ↦ Contains-append_left old.variables.items (v ∷ []) w (listed.variables w (sym (there w other) ∙ is))
    ]);
    differ = subst (AllPairs (λ x y. x ≢ y)) (sym more.variables)
        (all_pairs_push (λ (x y : ℕ). x ≢ y) old.variables.items v listed.differ
        (λ k d h same. false≢true (sym off ∙ ap (is_covered old) (sym same)
        ∙ listed.are_covered (get_or old.variables.items k d) (Contains-get_or old.variables.items k d h))));
    are_covered = λ w has. elim (Contains-push_cases old.variables.items v w
        (subst (λ xs. Contains xs w) more.variables has)) [
          | inl before ↦ covers_too.kept w (listed.are_covered w before)
          | inr same ↦ ap (is_covered new) (sym same) ∙ here
        ];
  }

-- a variable is covered, as it was or by now
pub covers_one : (v : ℕ) (old new : Growth) → v < length old.covered.items → CoversOne v old new
    → CoversMore (λ w. w ≡ v) old new
covers_one v old new inside (inl was) = subst (CoversMore (λ w. w ≡ v) old) (sym was.1) (record {
  marks = refl;
  looked = refl;
  kept = λ w is. is;
  gained = λ w same. ap (is_covered old) same ∙ was.0;
  only = λ w is. inl is;
  place = λ k h. refl;
  size = refl;
  long = omega arith;
})
covers_one v old new inside (inr now) = covers_too v old new inside now.0 now.1

-- all is listed still, whether it was covered or not
pub listed_one : (v : ℕ) (old new : Growth) → v < length old.covered.items → CoversOne v old new
    → (n count : ℕ) → AreListed n count old → AreListed n count new
listed_one v old new inside (inl was) n count listed = subst (AreListed n count) (sym was.1) listed
listed_one v old new inside (inr now) n count listed =
    listed_covered v old new inside now.0 now.1 n count (subst (λ m. v < m) listed.covered inside) listed

-- the fresh events stay
pub fresh_one : (v : ℕ) (old new : Growth) → CoversOne v old new → new.fresh ≡ old.fresh
fresh_one v old new (inl was) = ap (λ (g : Growth). g.fresh) was.1
fresh_one v old new (inr now) = now.1.fresh

-- there are as many flags as before
pub count_one : (v : ℕ) (old new : Growth) → CoversOne v old new → length new.covered.items ≡ length old.covered.items
count_one v old new (inl was) = ap (λ (g : Growth). length g.covered.items) was.1
count_one v old new (inr now) = ap length now.1.covered ∙ length-set old.covered.items v true

-- the variables of one pair more
pub names_split : (e : Cube) (i : ℕ) (p : ℕ × ℕ) → get_or e i (0, 0) ≡ p → i < length e → (v : ℕ)
    → names (take (i + 1) e) v ≡ true → (names (take i e) v ≡ true) ⊎ (v ≡ p.0)
names_split e i p at within v is = elim (cases_Bool (names (take i e) v)) [
  | inl before ↦ inl before
  | inr not_before ↦
      let both : (names (take i e) v || (get_or e i (0, 0)).0 == v) ≡ true =
      sym (list_any_more (λ (q : ℕ × ℕ). q.0 == v) e i (0, 0) within) ∙ is in
      let now : ((get_or e i (0, 0)).0 == v) ≡ true = sym (ap (λ b. b || (get_or e i (0, 0)).0 == v) not_before)
      ∙ both in
      inr (sym (eqb-true (get_or e i (0, 0)).0 v now) ∙ ap (λ (q : ℕ × ℕ). q.0) at)
]

-- the variables of the pairs before are among them
pub names_left : (e : Cube) (i : ℕ) → i < length e → (v : ℕ) → names (take i e) v ≡ true
    → names (take (i + 1) e) v ≡ true
names_left e i within v is =
    list_any_more (λ (q : ℕ × ℕ). q.0 == v) e i (0, 0) within ∙ ap (λ b. b || (get_or e i (0, 0)).0 == v) is

-- and so is that of the pair itself
pub names_right : (e : Cube) (i : ℕ) (p : ℕ × ℕ) → get_or e i (0, 0) ≡ p → i < length e → (v : ℕ) → v ≡ p.0
    → names (take (i + 1) e) v ≡ true
names_right e i p at within v same =
    list_any_more (λ (q : ℕ × ℕ). q.0 == v) e i (0, 0) within
    ∙ ap (λ b. names (take i e) v || b) (eq-eqb (get_or e i (0, 0)).0 v (ap (λ (q : ℕ × ℕ). q.0) at ∙ sym same))
    ∙ or_true (names (take i e) v)
  where
    or_true : (b : Bool) → (b || true) ≡ true
    or_true true = refl
    or_true false = refl

-- the variables of the events of one place more
pub named_split : (rows : List (ℕ × Cube)) (u : ℕ) (done : List ℕ) (v : ℕ) → IsNamedBy rows (u ∷ done) v
    → IsNamedBy rows done v ⊎ (names (cube_at rows u) v ≡ true)
named_split rows u done v (w, has, is) = elim (member_cases u done w has) [
  | inl same ↦ inr (ap (λ x. names (cube_at rows x) v) same ∙ is)
  | inr later ↦ inl (w, later, is)
]

-- the variables of the events before are among them
pub named_left : (rows : List (ℕ × Cube)) (u : ℕ) (done : List ℕ) (v : ℕ) → IsNamedBy rows done v
    → IsNamedBy rows (u ∷ done) v
named_left rows u done v (w, has, is) = (w, tail_member u done w has, is)

-- and so are those of the event itself
pub named_right : (rows : List (ℕ × Cube)) (u : ℕ) (done : List ℕ) (v : ℕ) → names (cube_at rows u) v ≡ true
    → IsNamedBy rows (u ∷ done) v
named_right rows u done v is = (u, head_member u done, is)

-- with fewer fresh events all is listed still
pub listed_fewer : (n count : ℕ) (old : Growth) (u : ℕ) (new : Growth) → new.marks ≡ old.marks → new.looked ≡ old.looked
    → new.covered ≡ old.covered → new.variables ≡ old.variables → old.fresh.items ≡ new.fresh.items ++ u ∷ []
    → AreListed n count old → AreListed n count new
listed_fewer n count old u new marks looked covered variables fresh listed = record {
  marks = rw marks listed.marks;
  covered = rw covered listed.covered;
  known_events = rw looked listed.known_events;
  known_fresh = λ k d h. known k d h;
  known_variables = rw variables listed.known_variables;
  looked = rw (looked, marks) listed.looked;
  joined = λ w has. rw marks (listed.joined w (subst (λ xs. Contains xs w) (sym fresh)
      (Contains-append_left new.fresh.items (u ∷ []) w has)));
  variables = rw (variables, covered) listed.variables;
  differ = rw variables listed.differ;
  are_covered = rw (variables, covered) listed.are_covered;
}
  where
    known : (k d : ℕ) → k < length new.fresh.items → get_or new.fresh.items k d < n
    known k d h =
        let at = get_or_append_left new.fresh.items (u ∷ []) d k h in
        let long : k < length old.fresh.items = omega (
          arith,
          h,
          ap length fresh,
          length-append new.fresh.items (u ∷ []),
        ) in
        let below = listed.known_fresh k d long in
        let same : get_or old.fresh.items k d ≡ get_or (new.fresh.items ++ u ∷ []) k d =
        ap (λ (xs : List ℕ). get_or xs k d) fresh in
        omega (arith, at, below, same)
