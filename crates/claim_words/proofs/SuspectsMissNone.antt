-- The suspects that the words have are those that a pass that is the only one knows. No poppable event is missed: the
-- variables that are not settled, and the units that are marked, are among them.
use Rattle.std.proofs.Common.{ap₂, not, Bool, ◌≡◌, ℕ, zero, suc, ◌+◌, ◌<◌, true, false, List, [], ◌∷◌, ◌++◌, length, get_or, Contains, cond, refl, sym, ap, ◌∙◌, subst, arith, lt-ltb, le-ltb, eqb, eq-eqb, ne_eqb, ⊎_elim, ◌^◌, ◌-◌}
use mathlib.Core.Logic.{dite}
use native.Mathlib.Decide.{ℕ_discrete}
use Rattle.std.proofs.lemmas.Option.{slice_get_within}
use Rattle.std.proofs.lemmas.List.Elements.{Contains-push, Contains-append_left}
use Rattle.atomic_table.specs.Table.{State, Final, Seen}
use Rattle.pop_model.specs.Popping.{IsPoppable, cursor, names}
use Rattle.pop_model.specs.Cycles.{first_of}
use Rattle.pop_model.specs.Families.{Event, Family, IsEvent}
use Rattle.pop_model.specs.Families.Family.{Listed, Cycles}
use Rattle.pop_model.specs.Instances.{FamilyFits}
use Rattle.pop_model.proofs.CycleFamily.{first_named}
use Rattle.confluence_core.specs.Runs.{MissesNone, IsSuspected}
use Rattle.confluence_core.proofs.CycleVariables.{cycle_below}
use Rattle.claim_words.proofs.SharersAreOwed.{poppable_at}
use Rattle.claim_words.proofs.Memberships.{none_in}
use Rattle.claim_words.specs.declared.view.View.{View}
use Rattle.claim_words.specs.declared.opening.Opening.{Opening}
use Rattle.claim_words.specs.Words.{cursor_in, settled_bit, is_settled, Formed}
use Rattle.claim_words.specs.Openings.{count, marks, marks_in, is_listed}
use Rattle.claim_words.specs.Machine.{abstract, Sound}
use Rattle.claim_words.specs.Maps.{times}
use Rattle.claim_words.specs.Machine.{IsSettledAt}
use Rattle.claim_words.specs.Closing.{passing, set_marks, unsettled, suspects_in, set_after, others, suspects_of, Leaves}
use Rattle.claim_words.proofs.Totals.{each-look}
use Rattle.claim_words.proofs.MarkKeepsRule.{sole_finds}
use Rattle.claim_words.proofs.SoleKnowsSettled.{true-false}
use mathlib.Core.Option.{some}
use lib.ListN.{get_elem?}
use Rattle.claim_words.proofs.SoleHasAll.{only_mine, settled_at, tracks_mine}
use Rattle.claim_words.proofs.NoSettledCycle.{unpoppable}

-- one number more
pub passing_more : (f : ℕ → Bool) (old new : List ℕ) (n : ℕ) (b : Bool) → old ≡ passing f n → b ≡ f n
    → new ≡ cond b (old ++ n ∷ []) old → new ≡ passing f (n + 1)
passing_more f old new n b was is to = let next : suc n ≡ n + 1 = omega arith in
    to ∙ ap₂ (λ (c : Bool) (l : List ℕ). cond c (l ++ n ∷ []) l) is was ∙ ap (passing f) next

-- a number that passes is among them
passing_has : (f : ℕ → Bool) (n u : ℕ) → u < n → f u ≡ true → Contains (passing f n) u
passing_has f zero u h holds = absurd (omega arith)
passing_has f (suc n) u h holds = let l : List ℕ = passing f n in
    dite (ℕ_discrete u n)
    (λ is. rw (ap f (sym is) ∙ holds) (subst (λ (x : ℕ). Contains (l ++ x ∷ []) u) is (Contains-push l u)))
    (λ ne. let old = passing_has f n u (omega arith) holds in
    elim (f n) as (λ b. Contains (cond b (l ++ n ∷ []) l) u)
    [ true ↦ Contains-append_left l (n ∷ []) u old | false ↦ old ])

-- those that pass an equal test are the same
passing_same : (f g : ℕ → Bool) (n : ℕ) → ((u : ℕ) → u < n → f u ≡ g u) → passing f n ≡ passing g n
passing_same f g zero same = refl
passing_same f g (suc n) same = ap₂ (λ (b : Bool) (l : List ℕ). cond b (l ++ n ∷ []) l)
    (same n (omega arith)) (passing_same f g n (λ u h. same u (omega arith)))

module _ (k : Opening) (s : State (Unit {0}) View) (o : Sound k s) (id : ℕ) (d : View)
    (me : get_elem? s.views id ≡ some d) (sole : d.share ≡ 64) where
  -- a sole pass knows just the variables that are settled
  settled_told : (u : ℕ) → u < count k → not (is_settled (get_or s.words (1 + u) 0)) ≡ eqb (times u d.settled) 0
  settled_told u near =
      let w : ℕ = get_or s.words (1 + u) 0 in
      let f : Formed w = o.formed u near in let f₀ = f.0 in let f₁ = f.1 in let f₂ = f.2 in let f₃ = f.3 in
      let all = only_mine k s o id d me sole (λ (x : View). times u x.settled) refl in
      let known = o.known u near in
      dite (ℕ_discrete (times u d.settled) 0)
      (λ none. ap not (le-ltb (2 ^ 63 + 2 ^ 62 - 1) w (omega arith)) ∙ sym (eq-eqb (times u d.settled) 0 none))
      (λ some_there.
      let at = each-look (IsSettledAt k s.words) d.settled u (omega arith) (o.agree id d me).knows in let set = at.1 in
      ap not (lt-ltb (2 ^ 63 + 2 ^ 62 - 1) w (omega arith)) ∙ sym (ne_eqb (times u d.settled) 0 some_there))

  -- the suspects that the words have are those that it knows
  suspects_told : suspects_in k s.words ≡ suspects_of k d
  suspects_told =
      let b = is_listed k.instance.value.family in
      let marked : set_marks s.words (count k) (marks k) ≡ set_after d.changes (marks k) =
      passing_same _ _ (marks k) (λ u h. ap (λ (w : ℕ). eqb w 1) (sole_finds k s o id d me u h sole)) in
      let unset : unsettled s.words (count k) ≡ others d.settled (count k) =
      passing_same _ _ (count k) settled_told in
      ap₂ (λ (l m : List ℕ). cond b l m) marked unset

module _ (k : Opening) (s : State (Unit {0}) View) (o : Sound k s) (id : ℕ) (d : View)
    (me : get_elem? s.views id ≡ some d) (sole : d.share ≡ 64) (idle : (d.held ≡ []) × (d.taken ≡ []) × (d.owed ≡ []))
    (ws cursors suspects : List ℕ) (words : s.words ≡ ws)
    (each : (v : ℕ) → v < count k → get_or cursors v 0 ≡ cursor_in (get_or ws (1 + v) 0))
    (are : suspects ≡ suspects_in k ws) where
  -- every variable of a poppable cycle is there
  of_cycle : (family : Family) → k.instance.value.family ≡ family → is_listed k.instance.value.family ≡ false
      → (e : Event) → IsEvent k.instance.value.family e → IsPoppable k.instance.value.stacks cursors e.cube
      → (v : ℕ) → names e.cube v ≡ true → Contains suspects v
  of_cycle (Listed rows) is unlisted e event poppable v there = absurd (true-false (sym (ap is_listed is) ∙ unlisted))
  of_cycle (Cycles heads) is unlisted e event poppable v there =
      let told : suspects ≡ unsettled ws (count k) = are
      ∙ ap (λ (f : Family). cond (is_listed f) (set_marks ws (count k) (marks k)) (unsettled ws (count k))) is in
      let event_at : IsEvent (Cycles heads) e = subst (λ (f : Family). IsEvent f e) is event in
      let fits : FamilyFits k.instance.value.stacks (Cycles heads) = subst
      (λ (f : Family). FamilyFits k.instance.value.stacks f) is o.fits in
      let near : v < count k = omega (arith, cycle_below heads e.cube v event_at.0 there, fits.0) in
      let f : Formed (get_or s.words (1 + v) 0) = o.formed v near in let f₀ = f.0 in let f₁ = f.1 in let f₂ = f.2 in
      let f₃ = f.3 in
      let same : (u : ℕ) → u < count k → settled_bit (get_or s.words (1 + u) 0) ≡ 1
      → cursor cursors u ≡ cursor_in (get_or s.words (1 + u) 0) = λ u h _. each u h
      ∙ ap (λ (l : List ℕ). cursor_in (get_or l (1 + u) 0)) (sym words) in
      let here : Contains (unsettled ws (count k)) v = dite (ℕ_discrete (settled_bit (get_or s.words (1 + v) 0)) 1)
      (λ settled. absurd (unpoppable k s.words cursors heads is same e.cube event_at.0 poppable v near settled there
      (o.leads v near settled)))
      (λ clear. passing_has (λ u. not (is_settled (get_or ws (1 + u) 0))) (count k) v near
      (ap not (le-ltb (2 ^ 63 + 2 ^ 62 - 1) (get_or ws (1 + v) 0)
      (omega (arith, ap (λ (l : List ℕ). get_or l (1 + v) 0) words, f₀, f₁, f₂, f₃, clear))))) in
      subst (λ (l : List ℕ). Contains l v) (sym told) here

  -- no poppable event is missed
  by_family : (family : Family) → k.instance.value.family ≡ family → MissesNone k.instance.value cursors suspects
  by_family (Listed rows) is = λ e event poppable.
      let told : suspects ≡ set_marks ws (count k) (marks k) = are
      ∙ ap (λ (f : Family). cond (is_listed f) (set_marks ws (count k) (marks k)) (unsettled ws (count k))) is in
      let event_at : IsEvent (Listed rows) e = subst (λ (f : Family). IsEvent f e) is event in
      let inside : e.unit < length rows = slice_get_within rows e.unit (event_at.0, e.cube) event_at.1 in
      let near : e.unit < marks k = omega (arith, inside, ap marks_in is) in
      let same : (v : ℕ) → v < count k
      → abstract k s v ≡ cursor cursors v = λ v h. settled_at k s o id d me sole idle.0 v
      ∙ ap (λ (l : List ℕ). cursor_in (get_or l (1 + v) 0)) words ∙ sym (each v h) in
      let open_at = poppable_at k cursors (abstract k s) e o.fits near same event poppable in
      let one : get_or s.words (1 + count k + e.unit) 0 ≡ 1 = ⊎_elim (λ h. h)
      (λ r. absurd (⊎_elim (none_in e.unit d.taken idle.1) (none_in e.unit d.owed idle.2)
      (tracks_mine k s o id d me sole e.unit r))) (o.marked.covers e.unit near open_at) in
      subst (λ (g : Family). IsSuspected g suspects e) (sym is)
      (subst (λ (l : List ℕ). Contains l e.unit) (sym told)
      (passing_has (λ u. eqb (get_or ws (1 + count k + u) 0) 1) (marks k) e.unit near
      (eq-eqb (get_or ws (1 + count k + e.unit) 0) 1
      (ap (λ (l : List ℕ). get_or l (1 + count k + e.unit) 0) (sym words) ∙ one))))
  by_family (Cycles heads) is = λ e event poppable.
      let event_at : IsEvent (Cycles heads) e = subst (λ (f : Family). IsEvent f e) is event in
      let v : ℕ = first_of e.cube in
      let there = first_named e.cube event_at.0.cube in
      let unlisted : is_listed k.instance.value.family ≡ false = ap is_listed is in
      subst (λ (g : Family). IsSuspected g suspects e) (sym is)
      (v, there, of_cycle (Cycles heads) is unlisted e event poppable v there)

-- what the words leave at the close of a sole idle pass
pub leaves : (k : Opening) (id : ℕ) (d : View) (ws : List ℕ) (xs : List (Unit {0})) (cursors suspects : List ℕ)
    → Final (Seen (Sound k) id d) ws xs → d.share ≡ 64 → (d.held ≡ []) × (d.taken ≡ []) × (d.owed ≡ [])
    → ((v : ℕ) → v < count k → get_or cursors v 0 ≡ cursor_in (get_or ws (1 + v) 0)) → suspects ≡ suspects_in k ws
    → Leaves k d cursors suspects
leaves k id d ws xs cursors suspects final sole idle each are = record {
  suspects_are = are ∙ ap (suspects_in k) (sym final.2) ∙ suspects_told k final.0 final.1.0 id d final.1.1 sole;
  missed = by_family k final.0 final.1.0 id d final.1.1 sole idle ws cursors suspects final.2 each are
      k.instance.value.family refl;
  cycles = λ unlisted e event poppable v there.
      of_cycle k final.0 final.1.0 id d final.1.1 sole idle ws cursors suspects final.2 each are
      k.instance.value.family refl unlisted e event poppable v there;
}
