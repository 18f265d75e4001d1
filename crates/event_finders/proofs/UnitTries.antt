-- All results of a try at the event of a unit, by what its claims showed.
use Rattle.std.proofs.Common.{◌≡◌, ◌≢◌, ℕ, ◌<◌, true, false, List, [], ◌∷◌, ◌++◌, drop, length, slice_get, Option, Some, refl, sym, ap, ◌∙◌, subst, arith, append-nil}
use mathlib.Core.Logic.{dite}
use native.Mathlib.Decide.{ℕ_discrete}
use Rattle.std.proofs.lemmas.List.{drop_at}
use Rattle.pop_model.specs.Stacks.{value_at}
use Rattle.pop_model.specs.Popping.{Cube, IsCube}
use Rattle.pop_model.specs.Instances.{Instance}
use Rattle.pop_model.specs.Places.{IsLeast}
use Rattle.claim_words.specs.declared.view.View.{View}
use Rattle.claim_words.specs.declared.opening.Opening.{Opening}
use Rattle.claim_words.specs.declared.claim.Claim.TheVariants.{Mine, Busy as Refused}
use Rattle.claim_words.specs.Words.{mark_of}
use Rattle.claim_words.specs.Maps.{Each, In, taken_out}
use Rattle.claim_words.specs.Openings.{count_in}
use Rattle.claim_words.specs.Steps.{Drawn, record_held, sharing, sharers, taken_by, marked_by, cleared_by, popped_by}
use Rattle.claim_words.specs.Answers.{Takes}
use Rattle.claim_words.specs.Tells.{SoleKnows}
use Rattle.claim_words.proofs.Totals.{is_at-yes, is_at-no}
use Rattle.claim_words.proofs.HeldLemmas.{taken-hit}
use Rattle.event_finders.specs.Gains.{gained, Entered}
use Rattle.event_finders.specs.OwedMarks.{changing, owing, emptied, SetsJust, SetsMarks}
use Rattle.event_finders.specs.UnitConditions.{IsListedEvent}
use Rattle.event_finders.specs.UnitLooks.{ClaimsFirst, found_at, HasClaimed, HasValue, HasMore, IsAtLast}
use Rattle.event_finders.specs.UnitAnswers.{Says, KeepsRecords, FindsMark, ChangesMarks, SoleLearns, Tries}
use Rattle.event_finders.specs.declared.tried.Tried.{Tried}
use Rattle.event_finders.specs.declared.tried.Tried.TheVariants.{Popped, Cleared, Stuck, Busy, Idle, OutOfMemory}
use Rattle.event_finders.proofs.WordsOnce.{Started, took, changes_all, changes_then, mark_found, entered_all, sees_once}
use Rattle.event_finders.proofs.UnitEnds.{all_found, held_found, at_found, idle_sole}
use Rattle.event_finders.proofs.CubePrefixes.{in_at, in_named, each_named}

-- a try so far, from what its calls ensure
pub started : {k : Opening} {i : Instance} {d r a e : View} {u : ℕ} {cube : Cube} {n m : ℕ} → k.instance.value ≡ i
    → d.opening ≡ Some k → (d.held ≡ []) × (d.taken ≡ []) × (d.owed ≡ []) → IsListedEvent i u cube → IsCube cube
    → r ≡ d → Takes r u a true → ClaimsFirst a e cube n m → Started k i d a e u cube n m
started same live idle event is room take first = record {
  same = same;
  live = live;
  idle = idle;
  event = event;
  is = is;
  took = took _ _ _ _ true room take;
  first = first;
}

-- no step was made
pub stays_out : (k : Opening) (i : Instance) (d e : View) (u : ℕ) (cube : Cube)
    → (d.held ≡ []) × (d.taken ≡ []) × (d.owed ≡ []) → e ≡ d → Tries k i d e u cube OutOfMemory
stays_out k i d e u cube idle same = subst (λ (x : View). Tries k i d x u cube OutOfMemory) (sym same) (record {
  idle = idle;
  share = refl;
  moves = refl;
  seen = record { added = []; seen = sym (append-nil d.seen); within = λ j. omega arith };
  records = refl;
  mark = refl;
  marks = refl;
  says = tt;
  sole = tt;
})

-- the mark was taken, and was 0
pub finds_none : (k : Opening) (i : Instance) (d r e : View) (u : ℕ) (cube : Cube) → d.opening ≡ Some k
    → (d.held ≡ []) × (d.taken ≡ []) × (d.owed ≡ []) → r ≡ d → Takes r u e false → Tries k i d e u cube Idle
finds_none k i d r e u cube live idle room take =
    let mark : ℕ = mark_of (count_in d.opening) u in
    let to : e ≡ taken_by d u 0 = took d r e u false room take in
    record {
      idle = (ap (λ (x : View). x.held) to ∙ idle.0, ap (λ (x : View). x.taken) to ∙ idle.1, ap (λ (x : View). x.owed) to ∙ idle.2);
      share = ap (λ (x : View). x.share) to;
      moves = ap (λ (x : View). x.moves) to;
      seen = record {
        added = (mark, 0) ∷ [];
        seen = ap (λ (x : View). x.seen) to;
        within = λ j. dite (ℕ_discrete mark j) (λ here. omega (arith, is_at-yes j (mark, 0) here))
            (λ ne. omega (arith, is_at-no j (mark, 0) ne));
      };
      records = ap (λ (x : View). x.mine) to;
      mark = ap (λ (x : View). drop (length d.seen) x.seen) to ∙ drop_at d.seen ((mark, 0) ∷ []) (length d.seen) refl;
      marks = ap (λ (x : View). x.changes) to;
      says = tt;
      sole = idle_sole k d r e u room take live idle.1 idle.2;
    }

module _ {k : Opening} {i : Instance} {d a e : View} {u : ℕ} {cube : Cube} {n m : ℕ}
    (s : Started k i d a e u cube n m) where
  -- the unit was taken, and no other
  taken_all : taken_out u e.taken ≡ []
  taken_all =
      ap (taken_out u) (s.first.same.taken ∙ ap (λ (x : View). x.taken) s.took
      ∙ ap (λ (l : List ℕ). u ∷ l) s.idle.1) ∙ taken-hit u u [] refl

  -- no mark is owed
  owed_all : e.owed ≡ []
  owed_all = s.first.same.owed ∙ ap (λ (x : View). x.owed) s.took ∙ s.idle.2

  -- the records are as before
  mine_all : e.mine ≡ d.mine
  mine_all = s.first.same.mine ∙ ap (λ (x : View). x.mine) s.took

  -- the try ends with this view, by steps that change no share and see nothing
  ends : (f : View) (answer : Tried) → f.held ≡ [] → f.taken ≡ [] → f.owed ≡ [] → f.share ≡ e.share
      → f.moves ≡ e.moves → f.seen ≡ e.seen → KeepsRecords d f answer → FindsMark d f u answer
      → ChangesMarks i d f u cube answer → Says i d f u cube answer → SoleLearns k f u answer
      → Tries k i d f u cube answer
  ends f answer held taken owed share moves seen records mark marks says sole = record {
    idle = (held, taken, owed);
    share = share ∙ s.first.same.share ∙ ap (λ (x : View). x.share) s.took;
    moves = moves ∙ s.first.same.moves ∙ ap (λ (x : View). x.moves) s.took;
    seen = sees_once s f seen;
    records = records;
    mark = mark;
    marks = marks;
    says = says;
    sole = sole;
  }

  -- all have the event's values, and one its last entry
  pub sticks : (f : View) (v c : ℕ) → f ≡ emptied (cleared_by e u) → Each (HasValue i a e) cube
      → IsLeast (IsAtLast i e cube) v → found_at e v ≡ c → Tries k i d f u cube (Stuck v c)
  sticks f v c to values least found =
      let g : View = emptied (cleared_by e u) in
      let all = all_found s g refl values in
      subst (λ (x : View). Tries k i d x u cube (Stuck v c)) (sym to)
      (ends g (Stuck v c) refl taken_all owed_all refl refl refl mine_all (mark_found s g refl) (changes_all s)
      (record { occurs = record { claimed = all.0; occurs = all.1 }; least = least; found = found })
      (λ sole other is poppable. let t = each_named (HasValue i a e) cube v values least.holds.0 in
      let now = at_found s (v, t.0) t.1 t.2.0 sole other is poppable in omega (arith, now.1, least.holds.1)))

  -- a variable has another value
  pub clears : (f : View) (j v x c : ℕ) → f ≡ emptied (cleared_by e u) → slice_get cube j ≡ Some (v, x)
      → HasClaimed a e v → found_at e v ≡ c → value_at i.stacks v c ≢ x → Tries k i d f u cube (Cleared v c)
  clears f j v x c to at has found differs =
      let g : View = emptied (cleared_by e u) in
      let there : In (v, x) cube = in_at cube j (v, x) at in
      subst (λ (x : View). Tries k i d x u cube (Cleared v c)) (sym to)
      (ends g (Cleared v c) refl taken_all owed_all refl refl refl mine_all (mark_found s g refl) (changes_all s)
      (record {
        value = x;
        demanded = there;
        claimed = subst (λ (c : ℕ). Entered (gained d g) v (Mine c)) found
            (entered_all s g refl v (Mine (found_at e v)) has.claimed);
        known = has.known;
        found = found;
        differs = differs;
      })
      (λ sole other is poppable. differs (ap (value_at i.stacks v) (sym found)
      ∙ (at_found s (v, x) there has sole other is poppable).0)))

  -- a claim was refused
  pub refuses : (f : View) (j v x w y : ℕ) → f ≡ emptied (marked_by e u y) → slice_get cube j ≡ Some (v, x)
      → Entered (gained a e) v (Refused w) → a.share ≢ 64 → Tries k i d f u cube (Busy v w)
  refuses f j v x w y to at refused shared =
      let g : View = emptied (marked_by e u y) in
      subst (λ (x : View). Tries k i d x u cube (Busy v w)) (sym to)
      (ends g (Busy v w) refl taken_all (ap (taken_out u) owed_all) refl refl refl mine_all (mark_found s g refl)
      (y, changes_then s g ((u, y, 1) ∷ []) refl)
      (record {
        named = in_named cube (v, x) (in_at cube j (v, x) at);
        refused = entered_all s g refl v (Refused w) refused;
        shared = λ sole. shared (ap (λ (x : View). x.share) s.took ∙ sole);
      }) tt)

  -- the event was popped, to this view, and all whose events share a variable with it were marked
  pub popped : (f b l : View) (t : ℕ) → b ≡ popped_by e u cube t → l ≡ changing l.changes (owing [] b)
      → f ≡ emptied l → SetsMarks b.owed b l → Each (HasValue i a e) cube → Each (HasMore i e) cube
      → ((q : Drawn) → In q e.mine → q.0 < t) → SoleKnows b → Tries k i d f u cube (Popped t)
  popped f b l t step marks to sets values more newer sole =
      let g : View = emptied (changing l.changes (owing [] (popped_by e u cube t))) in
      let is : f ≡ g = to ∙ ap emptied (marks ∙ ap (λ (x : View). changing l.changes (owing [] x)) step) in
      let live : e.opening ≡ Some k = s.first.same.opening ∙ ap (λ (x : View). x.opening) s.took ∙ s.live in
      let units : b.owed ≡ sharing i.family cube =
      ap (λ (x : View). x.owed) step ∙ ap (λ (us : List ℕ). us ++ sharers e.opening cube) owed_all
      ∙ ap (λ (o : Option Opening). sharers o cube) live ∙ ap (λ (x : Instance). sharing x.family cube) s.same in
      let all = all_found s g refl values in
      subst (λ (x : View). Tries k i d x u cube (Popped t)) (sym is)
      (ends g (Popped t) refl taken_all refl refl refl refl tt (mark_found s g refl) (
        sets.0,
        changes_then s g sets.0 (sets.1 ∙ ap (λ (x : View). x.changes ++ sets.0) step),
        subst (λ (us : List ℕ). SetsJust us sets.0) units sets.2,
      )
      (record {
        occurs = record { claimed = all.0; occurs = all.1 };
        next = more;
        mine = ap (λ (rs : List Drawn). rs ++ (t, record_held u cube e.held) ∷ []) mine_all
            ∙ ap (λ (es : List ℕ). d.mine
            ++ (t, record { event = record { unit = u; cube = cube }; entries = es }) ∷ []) (held_found s values);
        newer = λ q old. newer q (subst (In q) (sym mine_all) old);
      })
      (subst SoleKnows step sole))
