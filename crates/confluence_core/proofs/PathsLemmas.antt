-- The path of a walk. It passes no variable twice, since each has its own mark, so there is room on it for a variable
-- that the walk hasn't met. A cycle that occurs and has a variable of the path has each later one.
use Rattle.std.proofs.Common.{inl, inr, ◌≡◌, ◌≢◌, ℕ, zero, suc, ◌+◌, ◌-◌, ◌<◌, ◌≤◌, true, cond, ltb, List, length, get_or, set, Some, refl, sym, ap, subst, ◌∙◌, arith, get_or-set_same, get_or-set_other}
use Rattle.std.proofs.lemmas.Bool.{cases_eq, cases_lt, lt-ltb, le-ltb}
use Rattle.std.proofs.lemmas.Option.{same_Some}
use Rattle.pop_model.specs.Stacks.{value_at}
use Rattle.pop_model.specs.Popping.{Cube, Occurs, names, cursor}
use Rattle.pop_model.specs.Cycles.{IsCycle}
use Rattle.pop_model.proofs.Loops.{Distinct, path_short}
use Rattle.pop_model.proofs.TreeEnd.{stays_at}
use Rattle.confluence_core.specs.CycleTables.{CycleTable, current_head}
use Rattle.confluence_core.specs.Walks.{settled, IsSettled, IsOn, IsMet, AreSized, IsPath, CanWalkOn, Closes}

-- the variable at a place of the path
abbrev pub at_place : List ℕ → ℕ → ℕ
at_place path k = get_or path k 0

module _ {t : CycleTable} {c marks path : List ℕ} {depth : ℕ} (is : IsPath t c marks path depth) where
  -- a path passes no variable twice
  pub path_distinct : Distinct (at_place path) 0 depth
  path_distinct a b from less below same =
      let one = is.marked a (omega arith) in
      let two = is.marked b (omega arith) in
      let equal : suc a ≡ suc b = sym one ∙ ap (λ v. get_or marks v 0) same ∙ two in
      absurd (omega arith)

  -- so it has at most as many places as there are variables
  pub path_fits : depth ≤ length t.heads
  path_fits =
      path_short (at_place path) 0 depth (length t.heads) path_distinct (λ k from less. is.below k (omega arith))

  -- a variable with this mark stands nowhere where another one stands at the place of the mark
  pub off_other : (v m : ℕ) → m ≡ get_or marks v 0 → get_or path (m - 1) 0 ≢ v → IsOn path depth v → ⊥
  off_other v m read other (k, less, at) =
      let mark : m ≡ suc k = read ∙ ap (λ u. get_or marks u 0) (sym at) ∙ is.marked k less in
      let place : k ≡ m - 1 = omega arith in
      other (ap (λ j. get_or path j 0) (sym place) ∙ at)

  -- a settled variable isn't on the path
  pub settled_off : (v : ℕ) → depth < settled → IsSettled marks v → (k : ℕ) → k < depth → get_or path k 0 ≢ v
  settled_off v few at k less same =
      let big : suc k ≡ settled = sym (is.marked k less) ∙ ap (λ u. get_or marks u 0) same ∙ at in absurd (omega arith)

  module _ (e : Cube) (cycle : IsCycle t.heads e) (occurs : Occurs t.stacks c e) where
    -- a cycle that occurs and has a variable of the path has the one so many places later
    on_along : (k j : ℕ) → k + j < depth → names e (get_or path k 0) ≡ true → names e (get_or path (k + j) 0) ≡ true
    on_along k zero below at =
        let same : k ≡ k + 0 = omega arith in subst (λ n. names e (get_or path n 0) ≡ true) same at
    on_along k (suc j) below at =
        let on = stays_at t.heads t.stacks c e (get_or path (k + j) 0) cycle occurs (on_along k j (omega arith) at) in
        let next : suc (k + j) ≡ k + suc j = omega arith in
        let same : on.next ≡ get_or path (k + suc j) 0 = same_Some on.next (get_or path (k + suc j) 0)
        (sym on.leads ∙ is.leads (k + j) (omega arith) ∙ ap (λ n. Some (get_or path n 0)) next) in
        subst (λ u. names e u ≡ true) same on.named

    -- and so each later one
    pub on_later : (k j : ℕ) → k ≤ j → j < depth → names e (get_or path k 0) ≡ true → names e (get_or path j 0) ≡ true
    on_later k j order below at =
        let sum : k + (j - k) ≡ j = omega arith in
        subst (λ n. names e (get_or path n 0) ≡ true) sum (on_along k (j - k) (omega arith) at)

module _ {t : CycleTable} {c marks path : List ℕ} {depth v : ℕ} (sized : AreSized t c marks path)
    (is : CanWalkOn t c marks path depth v) where
  -- with one variable more it is still at most as long as there are variables
  pub room_for_more : depth < length t.heads
  room_for_more =
      let at : ℕ → ℕ = λ k. cond (ltb k depth) (get_or path k 0) v in
      let old : (k : ℕ) → k < depth → at k ≡ get_or path k 0 =
      λ k less. ap (λ b. cond b (get_or path k 0) v) (lt-ltb k depth less) in
      let new : (k : ℕ) → depth ≤ k → at k ≡ v = λ k more. ap (λ b. cond b (get_or path k 0) v) (le-ltb k depth more) in
      let distinct : Distinct at 0 (suc depth) = λ a b from less below same. elim (cases_lt b depth) [
        | inl within ↦
            path_distinct is.trail a b from less (omega arith)
            (sym (old a (omega arith)) ∙ same ∙ old b within)
        | inr last ↦ is.fresh (inr (a, omega arith, sym (old a (omega arith)) ∙ same ∙ new b last))
      ] in
      let short = path_short at 0 (suc depth) (length t.heads) distinct (λ k from less. elim (cases_lt k depth) [
        | inl within ↦ subst (λ u. u < length t.heads) (sym (old k within)) (is.trail.below k within)
        | inr last ↦ subst (λ u. u < length t.heads) (sym (new k last)) is.below
      ]) in
      omega (arith, short)

  -- the variable stands at the end of the path
  pushed_here : get_or (set path depth v) depth 0 ≡ v
  pushed_here = get_or-set_same path depth v 0 (omega (arith, room_for_more, sized.places_are))

  pushed_old : (k : ℕ) → k < depth → get_or (set path depth v) k 0 ≡ get_or path k 0
  pushed_old k less = get_or-set_other path depth k v 0 (λ e. absurd (omega arith))

  -- what holds of each place of the path, and of the variable at the next, holds of each once it is put there
  pushed_each : (P : ℕ → ℕ → Type 0) → ((k : ℕ) → k < depth → P k (get_or path k 0)) → P depth v
      → (k : ℕ) → k < depth + 1 → P k (get_or (set path depth v) k 0)
  pushed_each P each last k less = elim (cases_eq k depth) [
    | inl end ↦ subst (λ n. P n (get_or (set path depth v) n 0)) (sym end) (subst (P depth) (sym pushed_here) last)
    | inr more ↦ subst (P k) (sym (pushed_old k (omega arith))) (each k (omega arith))
  ]

  -- the variable is put onto the path, with its mark
  pub pushed : IsPath t c (set marks v (depth + 1)) (set path depth v) (depth + 1)
  pushed = record {
    leads = λ k less. ap (current_head t c) (pushed_old k (omega arith))
        ∙ pushed_each (λ n u. (j : ℕ) → n ≡ suc j → current_head t c (get_or path j 0) ≡ Some u)
        (λ n within j next. subst (λ m. current_head t c (get_or path j 0) ≡ Some (get_or path m 0)) (sym next)
        (is.trail.leads j (omega arith))) is.last (suc k) less k refl;
    below = pushed_each (λ k u. u < length t.heads) is.trail.below is.below;
    marked = pushed_each (λ k u. get_or (set marks v (depth + 1)) u 0 ≡ suc k)
        (λ k less. get_or-set_other marks v (get_or path k 0) (depth + 1) 0 (λ same. is.fresh (inr (k, less, same)))
        ∙ is.trail.marked k less)
        (let mark : depth + 1 ≡ suc depth = omega arith in
        get_or-set_same marks v (depth + 1) 0 (omega (arith, is.below, sized.marks_are)) ∙ mark);
  }

  -- there are fewer places than marks
  pub places_few : depth + 1 < settled
  places_few = let units = sized.instance.units in omega (arith, room_for_more, units)

  -- which leaves settled variables settled
  pub pushed_stay : (u : ℕ) → IsSettled marks u → IsSettled (set marks v (depth + 1)) u
  pushed_stay u at = elim (cases_eq u v) [
    | inl same ↦ absurd (is.fresh (inl (subst (IsSettled marks) same at)))
    | inr differ ↦ get_or-set_other marks v u (depth + 1) 0 differ ∙ at
  ]

  -- and settles none
  pub pushed_before : (u : ℕ) → IsSettled (set marks v (depth + 1)) u → IsSettled marks u
  pushed_before u at = elim (cases_eq u v) [
    | inl same ↦
        let big : depth + 1 ≡ settled =
        sym (get_or-set_same marks v (depth + 1) 0 (omega (arith, is.below, sized.marks_are)))
        ∙ ap (λ w. get_or (set marks v (depth + 1)) w 0) (sym same) ∙ at in
        absurd (omega (arith, places_few))
    | inr differ ↦ sym (get_or-set_other marks v u (depth + 1) 0 differ) ∙ at
  ]

  -- the arrow of the variable leads to the root or to a settled one
  pub step_rests : ((w : ℕ) → current_head t c v ≡ Some w → IsSettled (set marks v (depth + 1)) w)
      → IsPath t c (set marks v (depth + 1)) (set path depth v) (depth + 1)
      × ((w : ℕ) → current_head t c (get_or (set path depth v) depth 0) ≡ Some w
      → IsSettled (set marks v (depth + 1)) w)
  step_rests rests = (pushed, λ w leads. rests w (ap (current_head t c) (sym pushed_here) ∙ leads))

  module _ (w : ℕ) (leads : current_head t c v ≡ Some w) where
    -- a variable to which it leads is there
    pub step_below : w < length t.heads
    step_below = sized.instance.family.below v (value_at t.stacks v (cursor c v)) w leads

    -- it leads to one that the walk hasn't met
    pub step_on : (IsMet (set marks v (depth + 1)) (set path depth v) (depth + 1) w → ⊥)
        → CanWalkOn t c (set marks v (depth + 1)) (set path depth v) (depth + 1) w
    step_on fresh = record {
      trail = pushed;
      fresh = fresh;
      below = step_below;
      last = λ d same.
          let last : d ≡ depth = omega (arith, same) in
          ap (λ j. current_head t c (get_or (set path depth v) j 0)) last ∙ ap (current_head t c) pushed_here ∙ leads;
    }

    -- it leads back to one of the path
    pub step_back : (k : ℕ) → k < depth + 1 → get_or (set path depth v) k 0 ≡ w
        → Closes t c (set marks v (depth + 1)) (set path depth v) depth k
    step_back k less at = record {
      trail = pushed;
      order = omega arith;
      back = ap (current_head t c) pushed_here ∙ leads ∙ ap (λ u. Some u) (sym at);
    }
