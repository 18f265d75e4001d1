-- The pop of the loop that a path closes: it is legal, and moves the cursors of the path from the loop on.
use Rattle.std.proofs.Common.{inl, inr, ◌≡◌, ℕ, zero, suc, ◌+◌, ◌<◌, ◌≤◌, Bool, true, false, List, [], ◌∷◌, ◌++◌, length, map, take, slice_get, Option, Some, cond, eq-eqb, ne_eqb, refl, sym, ap, subst, ◌∙◌, arith, Contains}
use mathlib.Core.Logic.{dite}
use native.Mathlib.Decide.{ℕ_discrete}
use Rattle.std.proofs.lemmas.Bool.{cases_Bool}
use Rattle.pop_model.specs.Stacks.{StackTable, value_at}
use Rattle.pop_model.specs.Popping.{Cube, names, cursor, variables}
use Rattle.pop_model.specs.Families.{Family, IsEvent}
use Rattle.pop_model.proofs.Diamond.{names_it}
use Rattle.pop_model.proofs.Members.{first_read}
use Rattle.confluence_core.specs.CycleTables.{CycleTable}
use Rattle.confluence_core.proofs.LoopCubes.{one_cube}
use Rattle.confluence_core.proofs.ClosedLoops.{IsClosed, loop_of}
use Rattle.claim_words.specs.Maps.{Pairs, Each, In, times, times_in, look, raise, raise_all, taken_out}
use Rattle.claim_words.specs.Openings.{height}
use Rattle.claim_words.specs.Steps.{Drawn, popped_by, record_held, sharers, sharing}
use Rattle.claim_words.specs.Conditions.{CanPop, IsReady}
use Rattle.claim_words.specs.declared.opening.Opening.{Opening}
use Rattle.claim_words.specs.declared.view.View.{View}
use Rattle.claim_words.proofs.Totals.{is_at-yes, is_at-no}
use Rattle.claim_words.proofs.HeldLemmas.{times-variables, variables-raise_all, stands_in, once, names_raise}
use Rattle.event_finders.specs.Trails.{Trail, stand}
use Rattle.event_finders.specs.WalkSteps.{LeadsBack, IsLoopCube, PopsLoop, laid}
use Rattle.event_finders.proofs.TrailLemmas.{variables_long, stand_variable}
use Rattle.event_finders.proofs.TrailArrows.{next_at}
use Rattle.event_finders.proofs.LoopCursors.{depth, at, entry, looks, cursor_is, distinct, members, loop}

-- the first pair of a map in which the variables of a cube are raised
raise_all-cons : (cube : Pairs) (p : ℕ × ℕ) (h : Pairs)
    → raise_all cube (p ∷ h) ≡ (p.0, p.1 + times p.0 cube) ∷ raise_all cube h
raise_all-cons [] p h = let same : p.1 ≡ p.1 + 0 = omega arith in ap (λ (n : ℕ). (p.0, n) ∷ h) same
raise_all-cons (q ∷ cube) p h = dite (ℕ_discrete p.0 q.0)
    (λ is. let sum : p.1 + 1 + times p.0 cube ≡ p.1 + times p.0 (q ∷ cube) = omega
    (arith, is_at-yes p.0 q (sym is)) in
    ap (λ b. raise_all cube (cond b (p.0, p.1 + 1) p ∷ raise q.0 h)) (eq-eqb p.0 q.0 is) ∙ raise_all-cons cube (p.0, p.1 + 1) (raise q.0 h)
    ∙ ap (λ (n : ℕ). (p.0, n) ∷ raise_all cube (raise q.0 h)) sum)
    (λ ne. let sum : p.1 + times p.0 cube ≡ p.1 + times p.0 (q ∷ cube) = omega
    (arith, is_at-no p.0 q (λ is. ne (sym is))) in
    ap (λ b. raise_all cube (cond b (p.0, p.1 + 1) p ∷ raise q.0 h)) (ne_eqb p.0 q.0 ne) ∙ raise_all-cons cube p (raise q.0 h)
    ∙ ap (λ (n : ℕ). (p.0, n) ∷ raise_all cube (raise q.0 h)) sum)

-- its first pairs, of which just the last one is in the cube
raised_front : (cube h : Pairs) (n : ℕ) → n < length h → ((j : ℕ) → j < n → times (stand h j).0 cube ≡ 0)
    → times (stand h n).0 cube ≡ 1
    → take (suc n) (raise_all cube h) ≡ take n h ++ ((stand h n).0, (stand h n).1 + 1) ∷ []
raised_front cube [] n less off on = absurd (omega arith)
raised_front cube (p ∷ h) zero less off on =
    ap (take 1) (raise_all-cons cube p h) ∙ ap (λ (n : ℕ). (p.0, p.1 + n) ∷ []) on
raised_front cube (p ∷ h) (suc n) less off on =
    let same : p.1 + times p.0 cube ≡ p.1 = omega (arith, off 0 (omega arith)) in
    ap (take (suc (suc n))) (raise_all-cons cube p h)
    ∙ ap (λ (m : ℕ). (p.0, m) ∷ take (suc n) (raise_all cube h)) same
    ∙ ap (λ (l : Pairs). p ∷ l) (raised_front cube h n (omega arith) (λ j more. off (suc j) (omega arith)) on)

-- what holds of all members holds of each
each_all : (P : ℕ × ℕ → Type 0) (l : Pairs) → ((p : ℕ × ℕ) → Contains l p → P p) → Each P l
each_all P [] f = tt
each_all P (x ∷ l) f =
    (f x (0, omega arith, refl), each_all P l (λ p has. f p (suc has.0, omega (arith, has.1), has.2)))

module _ {g : CycleTable} {t : Trail} {place : ℕ} (b : LeadsBack g t place) (cube : Cube)
    (of : IsLoopCube g t place cube) where
  -- it is the cycle of the loop
  cycle : IsClosed g (laid t) (variables t.path) (depth b) place cube
  cycle = subst (IsClosed g (laid t) (variables t.path) (depth b) place)
      (one_cube g (laid t) (members b) (loop_of g (laid t) (variables t.path) (depth b) place) cube (loop b).cube of)
      (loop b)

  -- where its variables stand
  stands : (v : ℕ) → names cube v ≡ true → (j : ℕ) × (place ≤ j) × (j < length t.path) × (at b j ≡ v)
  stands v named = let on = cycle.on_only v named in (on.0, on.1, omega (arith, on.2, b.within), on.3)

  -- what stands there is named
  named_at : (v : ℕ) → (j : ℕ) × (place ≤ j) × (j < length t.path) × (at b j ≡ v) → names cube v ≡ true
  named_at v there =
      subst (λ (u : ℕ). names cube u ≡ true) there.3 (cycle.on there.0 there.1 (omega (arith, there.2)))

  -- it is an event of the family, under its least variable
  event : (unit x : ℕ) → slice_get cube 0 ≡ Some (unit, x)
      → IsEvent b.board.instance.value.family (record { unit = unit; cube = cube })
  event unit x first =
      subst (λ (f : Family). IsEvent f (record { unit = unit; cube = cube })) (sym b.table.family)
      (cycle.cycle, sym (first_read cube (unit, x) first))

  -- a variable is held as often as it stands on the path
  held_at : (v : ℕ) → times_in v (variables t.path) ≡ times v b.holder.held
  held_at v = ap (λ (l : Pairs). times_in v (variables l)) (sym b.stands.held) ∙ times-variables v b.holder.held

  -- its variables are held where it occurs
  ready : Each (IsReady b.board.instance.value b.holder.held) cube
  ready = each_all (IsReady b.board.instance.value b.holder.held) cube (λ p has.
      let v : ℕ = p.0 in
      let there = stands v (names_it cube p has) in
      let j = there.0 in
      let found : look v b.holder.held ≡ entry b j =
      ap (look v) b.stands.held ∙ ap (λ (u : ℕ). look u t.path) (sym there.3) ∙ looks b j there.2 in
      let is_v : (stand t.path j).0 ≡ v = stand_variable t.path j ∙ there.3 in
      let here : cursor (laid t) v ≡ entry b j = ap (cursor (laid t)) (sym there.3) ∙ cursor_is b j there.2 in
      let slot : value_at g.stacks v (look v b.holder.held) ≡ p.1 =
      ap (value_at g.stacks v) (found ∙ sym here) ∙ ((of.exact v p.1).0 has).1 in (
        omega (
          arith,
          held_at v,
          b.stands.trail.once v,
          stands_in v (variables t.path) j 0 there.3 (omega (arith, there.2, variables_long t.path)),
        ),
        ap (λ (x : StackTable). value_at x v (look v b.holder.held)) b.table.stacks ∙ slot,
        subst (λ (n : ℕ). n + 1 < height b.board v) (sym found)
            (subst (λ (u : ℕ). entry b j + 1 < height b.board u) is_v
            (next_at b.board t.path (at b place) b.stands.led b.closes j there.2)),
      ))

  -- so it may be popped
  pub can : (unit x : ℕ) → slice_get cube 0 ≡ Some (unit, x) → CanPop b.board.instance.value b.holder unit cube
  can unit x first = record { event = event unit x first; ready = ready }

  -- how often a variable is in it
  counts : (v : ℕ) (is : Bool) → names cube v ≡ is → times v cube ≡ cond is 1 0
  counts v is same = omega
      (arith, names_raise cube v 0 (once cube of.cube.rising v), ap (λ x. cond x (0 + 1) 0) same)

  -- where it stands before the place, it isn't
  off : (j : ℕ) → j < place → times (at b j) cube ≡ 0
  off j less = elim (cases_Bool (names cube (at b j))) [
    | inl named ↦
        let there = stands (at b j) named in
        absurd (distinct b j there.0 (omega (arith, less, there.1)) there.2 (sym there.3))
    | inr other ↦ counts (at b j) false other
  ]

  -- what is held up to the place, after the pop
  left : take (place + 1) (raise_all cube b.holder.held)
      ≡ take place t.path ++ ((stand t.path place).0, (stand t.path place).1 + 1) ∷ []
  left =
      let next : place + 1 ≡ suc place = omega arith in
      let in_cube : (j n : ℕ) → times (at b j) cube ≡ n → times (stand t.path j).0 cube ≡ n = λ j n is.
      ap (λ (v : ℕ). times v cube) (stand_variable t.path j) ∙ is in
      ap (λ (l : Pairs). take (place + 1) (raise_all cube l)) b.stands.held
      ∙ ap (λ (n : ℕ). take n (raise_all cube t.path)) next
      ∙ raised_front cube t.path place b.within (λ j less. in_cube j 0 (off j less))
      (in_cube place 1 (counts (at b place) true (named_at (at b place) (place, omega arith, b.within, refl))))

  -- what the pop leaves
  pub popped : (e : View) (unit x ticket : ℕ) → slice_get cube 0 ≡ Some (unit, x)
      → e ≡ popped_by b.holder unit cube ticket → b.holder.opening ≡ Some b.board
      → ((q : Drawn) → In q b.holder.mine → q.0 < ticket) → PopsLoop b.board b.holder e t.path place ticket
  popped e unit x ticket first to live newer = record {
    stays = record {
      share = ap (λ (v : View). v.share) to;
      moves = ap (λ (v : View). v.moves) to;
      taken = ap (λ (v : View). v.taken) to ∙ ap (taken_out unit) b.stands.taken ∙ sym b.stands.taken;
      owed =
          ap (λ (v : View). v.owed) to ∙ ap (λ (l : List ℕ). l ++ sharers b.holder.opening cube) b.stands.owed
          ∙ ap (λ (o : Option Opening). sharers o cube) live ∙ ap (λ (f : Family). sharing f cube) b.table.family
          ∙ sym b.stands.owed;
      changes = ap (λ (v : View). v.changes) to;
    };
    seen = ap (λ (v : View). v.seen) to;
    known = ap (λ (v : View). v.settled) to;
    popped = record_held unit cube b.holder.held;
    mine = ap (λ (v : View). v.mine) to;
    event = event unit x first;
    loop = record {
      members = λ v. (stands v, named_at v);
      entries = ap (λ (l : Pairs). map (λ (p : ℕ × ℕ). look p.0 l) cube) b.stands.held;
    };
    newer = newer;
    same = ap (λ (v : View). variables v.held) to ∙ variables-raise_all cube b.holder.held;
    left = ap (λ (v : View). take (place + 1) v.held) to ∙ left;
  }
