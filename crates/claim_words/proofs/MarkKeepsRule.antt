-- To take, set or clear a mark preserves the rule, and what these steps show holds.
use Rattle.std.proofs.Common.{◌≡◌, ◌≢◌, ◌⊎◌, ℕ, zero, suc, ◌+◌, ◌-◌, ◌<◌, ◌≤◌, Bool, true, false, List, [], ◌∷◌, ◌++◌, length, get_or, set, sym, refl, ap, ◌∙◌, subst, inl, inr, ⊎_elim, arith, cond, eqb, get_or-set_same, get_or-set_other, Option, Some}
use Rattle.claim_words.specs.Plays.{TakeTold, MarkTold}
use Rattle.std.proofs.lemmas.Bool.Decides.{nat_tests}
use mathlib.Core.Logic.{dite}
use native.Mathlib.Decide.{ℕ_discrete}
use mathlib.Core.Option.{some}
use lib.ListN.{get_elem?}
use lib.Seq.{set-get_or}
use borrow.Author.Tests.{eqb-false}
use Rattle.std.specs.Int.Bits.{bit_or}
use Rattle.atomic_table.specs.Table.{State, Me, keeps, Allows}
use Rattle.atomic_table.proofs.Lists.{set_here}
use Rattle.std.proofs.lemmas.Option.{same_Some}
use Rattle.pop_model.specs.Stacks.{value_at}
use Rattle.pop_model.specs.Popping.{Cube}
use Rattle.claim_words.specs.declared.view.View.{View}
use Rattle.claim_words.specs.declared.opening.Opening.{Opening}
use Rattle.claim_words.specs.Words.{mark_of, unit_at}
use Rattle.claim_words.specs.Maps.{total, Each, In, times, look, taken_out}
use Rattle.claim_words.specs.Changes.{Change, found_mark, left_mark}
use Rattle.claim_words.specs.Openings.{count, marks, count_in}
use Rattle.claim_words.specs.Steps.{taken_by, marked_by, cleared_by}
use Rattle.claim_words.specs.Conditions.{RulesOut}
use Rattle.claim_words.specs.Machine.{IsPoppableAt, abstract, Tracks, Sound}
use Rattle.claim_words.specs.TicketLogs.{IsLegalFrom, vector}
use Rattle.claim_words.specs.Tells.{NonePoppable, SoleTakes, SoleFinds}
use Rattle.claim_words.proofs.Totals.{inside, total-append, total-set, total-same}
use Rattle.claim_words.proofs.SharersAreOwed.{one_cube, poppable_at}
use Rattle.claim_words.proofs.Memberships.{in_taken_out, each_taken_out, each_in_list}
use Rattle.claim_words.proofs.Histories.{marks_stay, tracks_set, pops_same}
use Rattle.claim_words.proofs.SoleHasAll.{sole_leads, only_mine, tracks_mine}
use Rattle.claim_words.proofs.WordMoves.{Moved, none_moves, agree_here, flat, unticketed, at_place, share_kept, held_word, knows_after}

-- The mark of u becomes n, which stands in the pass's changes, and its lists of units and of words seen become
-- these.
module _ {S : Type 0} (k : Opening) (s : State S View) (o : Sound k s) (id : ℕ) (d : View)
    (me : get_elem? s.views id ≡ some d) (live : d.opening ≡ Some k) (u n : ℕ) (near : u < marks k)
    (taken owed : List ℕ) (seen : List (ℕ × ℕ)) where
  -- the mark before the step
  abbrev was : ℕ
  was = get_or s.words (1 + count k + u) 0

  -- the view after the step
  abbrev next : View
  next = record d { taken = taken; owed = owed; seen = seen; changes = d.changes ++ (u, was, n) ∷ [] }

  -- the state after the step
  abbrev then : State S View
  then = record { words = set s.words (1 + count k + u) n; homes = s.homes; views = set s.views id next }

  -- no variable moves
  each : (v : ℕ) → v < count k
      → Moved k then.words d next 0 (get_or s.words (1 + v) 0) (get_or then.words (1 + v) 0) v
  each = none_moves k s o id (1 + count k + u) n d next me (λ _. 0)
      (λ v h. get_or-set_other s.words (1 + count k + u) (1 + v) n 0 (λ q. omega arith))
      (λ v. (refl, omega arith, omega arith))

  -- the mark is n
  mark_here : get_or then.words (1 + count k + u) 0 ≡ n
  mark_here = get_or-set_same s.words (1 + count k + u) n 0 (omega (arith, near, o.wide))

  -- the other marks stay
  mark_else : (w : ℕ) → w ≢ u → get_or then.words (1 + count k + w) 0 ≡ get_or s.words (1 + count k + w) 0
  mark_else w ne = get_or-set_other s.words (1 + count k + u) (1 + count k + w) n 0 (λ q. ne (omega arith))

  -- the changes of the pass tell what becomes of the mark of w
  told : (w : ℕ)
      → get_or then.words (1 + count k + w) 0 + total (found_mark w) next.changes + total (left_mark w) d.changes
      ≡ get_or s.words (1 + count k + w) 0 + total (found_mark w) d.changes + total (left_mark w) next.changes
  told w =
      let c : Change = (u, was, n) in
      let found = total-append (found_mark w) d.changes (c ∷ []) in
      let left = total-append (left_mark w) d.changes (c ∷ []) in
      let here = mark_here in let else = mark_else w in grind (arith, nat_tests, found, left, here, else)

  -- the rule stays: the other units are covered as before, and u is by `covered`
  sound : n ≤ 1 → Each (λ w. w < marks k) taken → ((w : ℕ) → w ≢ u → In w d.taken → In w taken)
      → ((w : ℕ) → w ≢ u → In w d.owed → In w owed)
      → (IsPoppableAt k (abstract k s) u → (n ≡ 1) ⊎ Tracks k then u) → Sound k then
  sound bit units f g covered =
      let at : ℕ = 1 + count k + u in
      let mark : ℕ → ℕ = λ x. get_or then.words (1 + count k + x) 0 in
      let a = agree_here k s o id at n d next me (λ _. 0) each (λ v. omega arith) in
      unticketed k s o id at n d next me each (refl, refl) (record {
        live = inl (live, share_kept k s o id d me live);
        held = a.held;
        found = a.found;
        knows = a.knows;
        taken = units;
        due = a.due;
      }) (get_or-set_other s.words at 0 n 0 (λ q. omega arith)) (record {
        bits = λ w h. dite (ℕ_discrete w u) (λ is. omega (arith, bit, mark_here, ap mark is))
            (λ ne. omega (arith, mark_else w ne, o.marked.bits w h));
        counts = λ w h. omega (
          arith,
          told w,
          o.marked.counts w h,
          total-set (λ (x : View). total (found_mark w) x.changes) s.views id d next me,
          total-set (λ (x : View). total (left_mark w) x.changes) s.views id d next me,
        );
        covers = λ w h p.
            let before = pops_same k (abstract k s) (abstract k then) w (flat k s o id at n d next me each) p in
            dite (ℕ_discrete w u)
            (λ is. subst (λ (x : ℕ). (mark x ≡ 1) ⊎ Tracks k then x) (sym is)
            (⊎_elim (λ e. inl (mark_here ∙ e)) (λ r. inr r)
            (covered (subst (IsPoppableAt k (abstract k s)) is before))))
            (λ ne. ⊎_elim (λ e. inl (mark_else w ne ∙ e))
            (λ r. inr (tracks_set k s then.words id d next me w (f w ne) (g w ne) r)) (o.marked.covers w h before));
      })

-- the unit of a mark's word
pub marked_unit : (k : Opening) (d : View) (u i : ℕ) → i ≡ mark_of (count k) u → d.opening ≡ Some k
    → u ≡ unit_at (count_in d.opening) i
marked_unit k d u i is live =
    let here : u ≡ i - (1 + count k) = omega (arith, is) in
    here ∙ ap (λ (x : Option Opening). unit_at (count_in x) i) (sym live)

-- what a sole pass learns from a mark
sole_takes : {S : Type 0} (k : Opening) (s : State S View) (o : Sound k s) (id : ℕ) (d : View)
    → get_elem? s.views id ≡ some d → d.opening ≡ Some k → (u : ℕ) → u < marks k
    → SoleTakes d u (get_or s.words (1 + count k + u) 0)
sole_takes k s o id d me live u near = λ h there sole.
    let same : k ≡ h = same_Some _ _ (sym live ∙ there) in
    let w : ℕ = get_or s.words (1 + count k + u) 0 in
    let led = sole_leads k s o id d me sole in
    subst (λ (x : Opening). IsLegalFrom x d.mine
    × (w ≡ 0 → (In u d.taken → ⊥) → (In u d.owed → ⊥) → NonePoppable x d u)) same (
      led.legal,
      λ none not_taken not_owed cube event poppable.
          let open_at = poppable_at k (vector k d.mine) (abstract k s) (record { unit = u; cube = cube }) o.fits near
          (λ v v_near. sym (led.cursors v v_near)) event poppable in
          ⊎_elim (λ (one : w ≡ 1). omega (arith, none, one))
          (λ r. ⊎_elim not_taken not_owed (tracks_mine k s o id d me sole u r))
          (o.marked.covers u near open_at),
    )

-- a sole pass finds the mark that its changes tell
pub sole_finds : {S : Type 0} (k : Opening) (s : State S View) (o : Sound k s) (id : ℕ) (d : View)
    → get_elem? s.views id ≡ some d → (u : ℕ) → u < marks k
    → SoleFinds d u (get_or s.words (1 + count k + u) 0)
sole_finds k s o id d me u near = λ sole.
    omega (
      arith,
      o.marked.counts u near,
      only_mine k s o id d me sole (λ (x : View). total (found_mark u) x.changes) refl,
      only_mine k s o id d me sole (λ (x : View). total (left_mark u) x.changes) refl,
    )

-- what a mark is once it was set
one_or : (x : ℕ) → x ≤ 1 → bit_or x 1 ≡ 1
one_or zero h = refl
one_or (suc zero) h = refl
one_or (suc (suc x)) h = absurd (omega arith)

module _ {S : Type 0} (k : Opening) (slots id : ℕ) (m : Me S View) (u : ℕ) (near : u < marks k)
    (live : m.0.opening ≡ Some k) where
  -- the word of the mark
  abbrev at : ℕ
  at = 1 + count k + u

  -- the rule stays, whether a take finds the mark set or not
  taken_sound : (s : State S View) → Sound k s → get_elem? s.views id ≡ some m.0 → (b : Bool)
      → eqb (get_or s.words at 0) 1 ≡ b → Sound k (record {
        words = set s.words at 0;
        homes = s.homes;
        views = set s.views id (record (taken_by m.0 u (get_or s.words at 0)) { taken = cond b (u ∷ m.0.taken) m.0.taken });
      })
  taken_sound s o me true is =
      let d : View = m.0 in let more : List ℕ = u ∷ d.taken in
      let e : View = record (taken_by d u (get_or s.words at 0)) { taken = more } in
      sound k s o id d me live u 0 near more d.owed e.seen (omega arith) (near, (o.agree id d me).taken)
      (λ x ne i. inr i) (λ x ne i. i) (λ p. inr (id, e, set_here s.views id e (inside s.views id d me), inl (inl refl)))
  taken_sound s o me false not =
      let d : View = m.0 in let w : ℕ = get_or s.words at 0 in
      let e : View = record (taken_by d u w) { taken = d.taken } in
      sound k s o id d me live u 0 near d.taken d.owed e.seen (omega arith) (o.agree id d me).taken (λ x n i. i)
      (λ x n i. i) (λ p. ⊎_elim (λ one. absurd (eqb-false w 1 not one))
      (λ r. inr (tracks_set k s (set s.words at 0) id d e me u (λ i. i) (λ i. i) r)) (o.marked.covers u near p))

  -- a mark may be swapped with 0
  pub takes : (i : ℕ) → i ≡ at
      → Allows (Sound k) slots id m i (λ _. 0) (λ r n. TakeTold m (unit_at (count_in m.0.opening) i) r n)
  takes i i_is =
      at_place k slots id m (λ _. 0) (TakeTold m) i at u (unit_at (count_in m.0.opening) i) i_is
      (marked_unit k m.0 u i i_is live)
      (λ s o _ me small.
      let w : ℕ = get_or s.words at 0 in let e : View = taken_by m.0 u w in
      let after = taken_sound s o me (eqb w 1) refl in (
        e,
        keeps,
        tt,
        after,
        (
          refl,
          o.marked.bits u near,
          sole_takes k s o id m.0 me live u near,
          sole_finds k s o id m.0 me u near,
          knows_after k s o id m.0 e me live (set s.words at 0) after,
        ),
      ))

  -- a mark may be set
  pub marks_it : (i : ℕ) → i ≡ at
      → Allows (Sound k) slots id m i (λ x. bit_or x 1) (λ r n. MarkTold m (unit_at (count_in m.0.opening) i) r n)
  marks_it i i_is =
      at_place k slots id m (λ x. bit_or x 1) (MarkTold m) i at u (unit_at (count_in m.0.opening) i) i_is
      (marked_unit k m.0 u i i_is live)
      (λ s o _ me small.
      let w : ℕ = get_or s.words at 0 in
      let d : View = m.0 in let e : View = marked_by d u w in (
        e,
        keeps,
        tt,
        subst (λ (x : ℕ). Sound k (record { words = set s.words at x; homes = s.homes; views = set s.views id e }))
            (sym (one_or w (o.marked.bits u near)))
            (sound k s o id d me live u 1 near (taken_out u d.taken) (taken_out u d.owed) d.seen (omega arith)
            (each_taken_out (λ w. w < marks k) u d.taken (o.agree id d me).taken)
            (λ w ne i. in_taken_out w u d.taken ne i) (λ w ne i. in_taken_out w u d.owed ne i) (λ p. inl refl)),
        (refl, o.marked.bits u near, sole_finds k s o id d me u near),
      ))

-- A load of the word of v, which the pass holds at a cursor that rules the event of u out.
module _ {S : Type 0} (k : Opening) (s : State S View) (o : Sound k s) (id : ℕ) (d : View)
    (me : get_elem? s.views id ≡ some d) (live : d.opening ≡ Some k) (u v : ℕ) (one : times v d.held ≡ 1)
    (clear : length d.due ≡ 0) (out : RulesOut k.instance.value d.held u v) where
  -- the event isn't poppable, since the abstract cursor of v is the held one
  never : u < marks k → IsPoppableAt k (abstract k s) u → ⊥
  never marked p =
      let cursor_is = (held_word k s o id v d me one).4 clear in
      let same : out.cube ≡ p.cube = one_cube k.instance.value.family u out.cube p.cube marked out.event p.event in
      let q = p.ready (v, out.value) (subst (λ (l : Cube). In (v, out.value) l) same out.names_it) in
      ⊎_elim
      (λ (differs : value_at k.instance.value.stacks v (look v d.held) ≢ out.value).
      differs (subst (λ (y : ℕ). value_at k.instance.value.stacks v y ≡ out.value) cursor_is q.1))
      (λ last. omega (arith, q.2, cursor_is)) out.out

  -- and the rule stays once the pass lets go of the unit
  cleared : In u d.taken → (i : ℕ) → Sound k (record {
    words = set s.words i (get_or s.words i 0);
    homes = s.homes;
    views = set s.views id (cleared_by d u);
  })
  cleared there i =
      let e : View = cleared_by d u in let n : ℕ = get_or s.words i 0 in let units = (o.agree id d me).taken in
      let t : State S View = record { words = set s.words i n; homes = s.homes; views = set s.views id e } in
      let stays : (j : ℕ) → get_or t.words j 0 ≡ get_or s.words j 0 =
      λ j. ap (λ (l : List ℕ). get_or l j 0) (set-get_or s.words i 0) in
      let each = none_moves k s o id i n d e me (λ _. 0) (λ w h. stays (1 + w)) (λ w. (refl, omega arith, omega arith)) in
      let a = agree_here k s o id i n d e me (λ _. 0) each (λ w. omega arith) in
      unticketed k s o id i n d e me each (refl, refl) (record {
        live = inl (live, share_kept k s o id d me live);
        held = a.held;
        found = a.found;
        knows = a.knows;
        taken = each_taken_out (λ w. w < marks k) u d.taken units;
        due = a.due;
      }) (stays 0) (marks_stay k s t o.marked (λ w h. stays (1 + count k + w))
      (λ g. total-same (λ (x : View). total g x.changes) s.views id d e me refl) (λ w h p.
      let before = pops_same k (abstract k s) (abstract k t) w (flat k s o id i n d e me each) p in
      dite (ℕ_discrete w u)
      (λ is. absurd (never (each_in_list (λ w. w < marks k) d.taken units u there)
      (subst (IsPoppableAt k (abstract k s)) is before)))
      (λ ne. ⊎_elim (λ q. inl (stays (1 + count k + w) ∙ q))
      (λ r. inr (tracks_set k s t.words id d e me w (in_taken_out w u d.taken ne) (λ j. j) r))
      (o.marked.covers w h before))))

-- the word of v may be loaded
pub clears : {S : Type 0} (k : Opening) (slots id : ℕ) (m : Me S View) (u i v : ℕ) → m.0.opening ≡ Some k
    → In u m.0.taken → times v m.0.held ≡ 1 → length m.0.due ≡ 0 → RulesOut k.instance.value m.0.held u v
    → Allows (Sound k) slots id m i (λ y. y) (λ r n. n ≡ (cleared_by m.0 u, m.1))
clears k slots id m u i v live there one clear out s o _ me small =
    (cleared_by m.0 u, keeps, tt, cleared k s o id m.0 me live u v one clear out there i, refl)
