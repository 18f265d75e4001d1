-- The first events of a search.
use Rattle.std.proofs.Common.{inl, inr, ◌≡◌, ◌≢◌, ℕ, zero, suc, ◌+◌, ◌<◌, Bool, true, false, not, cond, List, [], ◌∷◌, ◌++◌, length, get_or, refl, sym, ap, subst, ◌∙◌, arith, Contains}
use Rattle.std.specs.Prelude.{count_by}
use Rattle.std.proofs.lemmas.Bool.{cases_eq, false≢true}
use Rattle.std.proofs.lemmas.List.Elements.{All-push, All-weaker, All-contains, Contains-push, Contains-append_left}
use Rattle.std.proofs.lemmas.List.Sums.{sum_by-cons}
use Rattle.pop_model.specs.Popping.{Cube}
use Rattle.prs_rounds.specs.Growth.{mark_of, is_covered, AreListed, IsMarked, CoversMore, IsNamedBy, AreJoined, Begins, IsBlank}
use Rattle.prs_rounds.specs.declared.mark.Mark.TheVariants.{Free, Joined}
use Rattle.prs_rounds.specs.declared.growth.Growth.{Growth}
use Rattle.prs_rounds.proofs.GrowthLemmas.{mark_here, mark_there}

-- one event more joins
pub joined_more : (n count : ℕ) (places : List ℕ) (u : ℕ) (old new : Growth) → u < n → AreListed n count old
    → IsMarked u Joined old new → AreJoined places old → AreJoined (places ++ u ∷ []) new
joined_more n count places u old new within listed marked joined = record {
  joined = All-push (λ w. mark_of new w ≡ Joined) places u
      (All-weaker (λ w. mark_of old w ≡ Joined) (λ w. mark_of new w ≡ Joined) stays places joined.joined) here;
  only = λ w made. elim (cases_eq w u) [
    | inl same ↦ subst (λ x. Contains (places ++ u ∷ []) x) (sym same) (Contains-push places u)
    | inr other ↦ Contains-append_left places (u ∷ []) w
        (joined.only w (λ is. made (mark_there n count u Joined old new within listed marked w other ∙ is)))
  ];
  fresh = λ w made. subst (λ xs. Contains xs w) (sym marked.fresh) (elim (cases_eq w u) [
    | inl same ↦ subst (λ x. Contains (old.fresh.items ++ u ∷ []) x) (sym same) (Contains-push old.fresh.items u)
    | inr other ↦ Contains-append_left old.fresh.items (u ∷ []) w
        (joined.fresh w (λ is. made (mark_there n count u Joined old new within listed marked w other ∙ is)))
  ]);
}
  where
    here : mark_of new u ≡ Joined
    here = mark_here n count u Joined old new within listed marked

    stays : (w : ℕ) → mark_of old w ≡ Joined → mark_of new w ≡ Joined
    stays w is = elim (cases_eq w u) [
      | inl same ↦ ap (mark_of new) same ∙ mark_here n count u Joined old new within listed marked
      | inr other ↦ mark_there n count u Joined old new within listed marked w other ∙ is
    ]

-- an event that has joined joins no more
pub joined_same : (places : List ℕ) (u : ℕ) (g : Growth) → mark_of g u ≢ Free → AreJoined places g
    → AreJoined (places ++ u ∷ []) g
joined_same places u g made joined = record {
  joined = All-push (λ w. mark_of g w ≡ Joined) places u joined.joined
      (All-contains (λ w. mark_of g w ≡ Joined) places u joined.joined (joined.only u made));
  only = λ w made_w. Contains-append_left places (u ∷ []) w (joined.only w made_w);
  fresh = joined.fresh;
}

-- no event has joined yet
pub joined_none : (n count : ℕ) (g : Growth) → IsBlank n count g → AreJoined [] g
joined_none n count g blank = record {
  joined = λ k d h. absurd (omega arith);
  only = λ u made. absurd (made (blank.free u));
  fresh = λ u made. absurd (made (blank.free u));
}

-- and nothing is listed
pub listed_none : (n count : ℕ) (g : Growth) → IsBlank n count g → AreListed n count g
listed_none n count g blank = record {
  marks = blank.marks;
  covered = blank.covered;
  known_events = rw blank.looked (λ k d h. absurd (omega arith));
  known_fresh = rw blank.fresh (λ k d h. absurd (omega arith));
  known_variables = rw blank.variables (λ k d h. absurd (omega arith));
  looked = λ u made. absurd (made (blank.free u));
  joined = λ u has. let none : Contains [] u = subst (λ xs. Contains xs u) blank.fresh has in
      absurd (omega (arith, none.1));
  variables = λ v is. absurd (false≢true (sym (blank.none v) ∙ is));
  differ = rw blank.variables (λ i j d e h k. absurd (omega arith));
  are_covered = λ v has. let none : Contains [] v = subst (λ xs. Contains xs v) blank.variables has in
      absurd (omega (arith, none.1));
}

-- the variables of the first events are covered
pub begins_from : (n count : ℕ) (rows : List (ℕ × Cube)) (places : List ℕ) (g h : Growth) → AreListed n count g
    → ((v : ℕ) → is_covered g v ≡ false) → AreJoined places g → CoversMore (IsNamedBy rows g.fresh.items) g h
    → Begins rows places h
begins_from n count rows places g h listed none joined covers = record {
  joined = rw covers.marks joined.joined;
  only = rw covers.marks joined.only;
  covered = λ v. (to v, from v);
}
  where
    to : (v : ℕ) → is_covered h v ≡ true → IsNamedBy rows places v
    to v is = elim (covers.only v is) [
      | inl before ↦ absurd (false≢true (sym (none v) ∙ before))
      | inr now ↦
          let made : mark_of g now.0 ≢ Free = λ free. let no : Joined ≡ Free = sym (listed.joined now.0 now.1)
          ∙ free in cc in
          (now.0, joined.only now.0 made, now.2)
    ]

    from : (v : ℕ) → IsNamedBy rows places v → is_covered h v ≡ true
    from v (u, has, is) =
        let has_joined : mark_of g u ≡ Joined = All-contains (λ w. mark_of g w ≡ Joined) places u joined.joined has in
        let made : mark_of g u ≢ Free = λ free. let no : Joined ≡ Free = sym has_joined ∙ free in cc in
        covers.gained v (u, joined.fresh u made, is)

-- where no flag is set, all are counted
pub count_all : (flags : List Bool) → ((v : ℕ) → get_or flags v false ≡ false) → count_by not flags ≡ length flags
count_all [] none = refl
count_all (b ∷ flags) none =
    let rest = count_all flags (λ v. let next : v + 1 ≡ suc v = omega arith in none (suc v)) in
    let one : ℕ = 1 in
    let head : cond (not b) 1 0 ≡ one = ap (λ x. cond (not x) 1 0) (none zero) in
    let all = sum_by-cons (λ (x : Bool). cond (not x) 1 0) b flags in
    omega (arith, rest, head, all)
