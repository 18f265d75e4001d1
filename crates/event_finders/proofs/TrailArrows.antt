-- Arrows that lead along a path, as it grows and shrinks at its end, and where its last one leads.
use Rattle.std.proofs.Common.{inl, inr, ◌≡◌, ℕ, suc, ◌+◌, ◌-◌, ◌<◌, ◌≤◌, List, [], ◌∷◌, ◌++◌, length, get_or, Some, None, take, sym, ap, subst, ◌∙◌, arith}
use Rattle.std.proofs.lemmas.Bool.{cases_lt}
use Rattle.std.proofs.lemmas.List.{get_or_default, get_or-take, get_or_push, get_or_append_left, length-take, length_push}
use Rattle.pop_model.specs.Stacks.{StackTable, value_at}
use Rattle.pop_model.specs.Popping.{variables}
use Rattle.pop_model.specs.Cycles.{head_of}
use Rattle.pop_model.specs.Families.{Family}
use Rattle.confluence_core.specs.CycleTables.{CycleTable}
use Rattle.claim_words.specs.Maps.{Pairs, In, times_in, look}
use Rattle.claim_words.specs.Openings.{height, head_at, head_in}
use Rattle.claim_words.specs.Conditions.{MaySettle, last, root, known}
use Rattle.claim_words.specs.declared.opening.Opening.{Opening}
use Rattle.claim_words.specs.declared.view.View.{View}
use Rattle.claim_words.proofs.HeldLemmas.{times-variables}
use Rattle.event_finders.specs.Gains.{Stays}
use Rattle.event_finders.specs.Trails.{Trail, IsTrail, IsAt, Goes, Led, Stands}
use Rattle.event_finders.specs.WalkSteps.{IsTableOf}
use Rattle.event_finders.proofs.CubePrefixes.{contains_in, in_look, in_times}
use Rattle.event_finders.proofs.TrailLemmas.{variables_take, last_variable, before_variable}

-- the same arrow
pub goes_to : (k : Opening) (e f : ℕ × ℕ) (v u : ℕ) → e ≡ f → v ≡ u → Goes k e v → Goes k f u
goes_to k e f v u same to g = subst (λ (x : ℕ × ℕ). Goes k x u) same (subst (Goes k e) to g)

-- the arrows lead along a path with one more, to which its last leads
pub led_push : (k : Opening) (p : Pairs) (s : ℕ × ℕ) → Led k p → IsAt k s
    → ((j : ℕ) → length p ≡ j + 1 → Goes k (get_or p j (0, 0)) s.0) → Led k (p ++ s ∷ [])
led_push k p s led at leads =
    let long = length_push p s in
    let before = get_or_append_left p (s ∷ []) (0, 0) in
    record {
      at = λ j less. elim (cases_lt j (length p)) [
        | inl within ↦ subst (IsAt k) (sym (before j within)) (led.at j within)
        | inr end ↦ subst (IsAt k) (sym (get_or_push p s (0, 0) j (omega (arith, less, long, end)))) at
      ];
      on = λ j less. elim (cases_lt (suc j) (length p)) [
        | inl within ↦ goes_to k _ _ _ _ (sym (before j (omega (arith, within))))
            (sym (before_variable p s (suc j) within)) (led.on j within)
        | inr end ↦ goes_to k _ _ _ _ (sym (before j (omega (arith, less, long))))
            (sym (last_variable p s (suc j) (omega (arith, less, long, end))))
            (leads j (omega (arith, less, long, end)))
      ];
    }

-- and along a part of it
pub led_take : (k : Opening) (n : ℕ) (p : Pairs) → Led k p → Led k (take n p)
led_take k n p led =
    let long = length-take n p in
    record {
      at = λ j less. subst (IsAt k) (sym (get_or-take n p j (0, 0) (omega (arith, less, long))))
          (led.at j (omega (arith, less, long)));
      on = λ j less. goes_to k _ _ _ _ (sym (get_or-take n p j (0, 0) (omega (arith, less, long))))
          (sym (ap (λ (l : List ℕ). get_or l (suc j) 0) (variables_take n p)
          ∙ get_or-take n (variables p) (suc j) 0 (omega (arith, less, long))))
          (led.on j (omega (arith, less, long)));
    }

-- each variable of a path that closes has a next entry
pub next_at : (k : Opening) (p : Pairs) (v : ℕ) → Led k p → Goes k (get_or p (length p - 1) (0, 0)) v → (j : ℕ)
    → j < length p → (get_or p j (0, 0)).1 + 1 < height k (get_or p j (0, 0)).0
next_at k p v led closes j less = elim (cases_lt (suc j) (length p)) [
  | inl inner ↦ (led.on j inner).next
  | inr end ↦
      let eq : length p - 1 ≡ j = omega (arith, less, end) in
      subst (λ (i : ℕ). (get_or p i (0, 0)).1 + 1 < height k (get_or p i (0, 0)).0) eq closes.next
]

-- a pass stands on a path with one more, once it holds that too
pub stands_push : (k : Opening) (d e : View) (t : Trail) (s : ℕ × ℕ) → Stands k d t → Stays d e
    → e.held ≡ d.held ++ s ∷ [] → IsAt k s
    → ((j : ℕ) → length t.path ≡ j + 1 → Goes k (get_or t.path j (0, 0)) s.0)
    → IsTrail t.count (t.path ++ s ∷ []) → Stands k e (record t { path = t.path ++ s ∷ [] })
stands_push k d e t s is stays held at leads trail = record {
  held = held ∙ ap (λ (l : Pairs). l ++ s ∷ []) is.held;
  taken = stays.taken ∙ is.taken;
  owed = stays.owed ∙ is.owed;
  led = led_push k t.path s is.led at leads;
  trail = trail;
  counts = is.counts;
}

-- the cursor of a path's variable
pub look_at : (p : Pairs) (j : ℕ) → ((v : ℕ) → times_in v (variables p) ≤ 1) → j < length p
    → look (get_or p j (0, 0)).0 p ≡ (get_or p j (0, 0)).1
look_at p j once h =
    let e : ℕ × ℕ = get_or p j (0, 0) in
    in_look e.0 e.1 p (omega (arith, once e.0, times-variables e.0 p))
    (contains_in e p (j, h, get_or_default p j e (0, 0) h))

-- where the board's arrow leads
pub board_head : {k : Opening} {g : CycleTable} → IsTableOf k g → (e : ℕ × ℕ)
    → head_at k e.0 e.1 ≡ head_of g.heads e.0 (value_at g.stacks e.0 e.1)
board_head {k = k} {g = g} of_board e =
    ap (λ (f : Family). head_in f k.instance.value.stacks e.0 e.1) of_board.family
    ∙ ap (λ (s : StackTable). head_of g.heads e.0 (value_at s e.0 e.1)) of_board.stacks

-- what stands last on the path of a pass
module _ {k : Opening} {d : View} {t : Trail} {e : ℕ × ℕ} (is : Stands k d t) (some : 0 < length t.path)
    (e_is : e ≡ get_or t.path (length t.path - 1) (0, 0)) where
  -- it is held at its cursor
  looked : look e.0 d.held ≡ e.1
  looked =
      ap (look e.0) is.held ∙ ap (λ (x : ℕ × ℕ). look x.0 t.path) e_is
      ∙ look_at t.path (length t.path - 1) is.trail.once (omega arith) ∙ ap (λ (x : ℕ × ℕ). x.1) (sym e_is)

  -- where it may be settled, what stands last may
  to_last : MaySettle k d e.0 → MaySettle k d (get_or t.path (length t.path - 1) (0, 0)).0
  to_last m = subst (λ (x : ℕ × ℕ). MaySettle k d x.0) e_is m

  -- it may be settled at its last entry
  pub rests_last : height k e.0 ≤ e.1 + 1 → MaySettle k d (get_or t.path (length t.path - 1) (0, 0)).0
  rests_last h = to_last (last (omega (arith, h, looked)))

  -- or before the root
  pub rests_root : head_at k e.0 e.1 ≡ None → MaySettle k d (get_or t.path (length t.path - 1) (0, 0)).0
  rests_root h = to_last (root (ap (head_at k e.0) looked ∙ h))

  -- or before a settled variable
  pub rests_known : (u c : ℕ) → head_at k e.0 e.1 ≡ Some u → In (u, c) d.settled
      → MaySettle k d (get_or t.path (length t.path - 1) (0, 0)).0
  rests_known u c h at = to_last (known u (ap (head_at k e.0) looked ∙ h) (in_times u c d.settled at))
