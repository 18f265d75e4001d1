-- What a try at a unit sees: one mark, and the words of the first variables of its event. All are different words.
use Rattle.std.proofs.Common.{◌≡◌, ◌==◌, ℕ, zero, suc, ◌-◌, ◌≤◌, Bool, cond, List, Some, [], ◌∷◌, ◌++◌, take, drop, length, refl, sym, ap, ◌∙◌, subst, inl, inr, arith, append_assoc}
use mathlib.Core.Logic.{dite}
use native.Mathlib.Decide.{ℕ_discrete}
use Rattle.std.proofs.lemmas.List.{drop_at}
use Rattle.pop_model.specs.Popping.{Cube, IsCube, variables}
use Rattle.pop_model.specs.Instances.{Instance}
use Rattle.claim_words.specs.declared.opening.Opening.{Opening}
use Rattle.claim_words.specs.declared.view.View.{View}
use Rattle.claim_words.specs.declared.claim.Claim.{Claim}
use Rattle.claim_words.specs.Words.{word_of, mark_of}
use Rattle.claim_words.specs.Maps.{Pairs, In, times, times_in}
use Rattle.claim_words.specs.Changes.{Change}
use Rattle.claim_words.specs.Openings.{count_in}
use Rattle.claim_words.specs.Steps.{taken_by}
use Rattle.claim_words.specs.Answers.{Takes}
use Rattle.claim_words.proofs.Totals.{is_at-yes, is_at-no}
use Rattle.claim_words.proofs.HeldLemmas.{nowhere, once, times-variables}
use Rattle.event_finders.specs.Gains.{gained, SeesWithin, Entered}
use Rattle.event_finders.specs.UnitConditions.{IsListedEvent}
use Rattle.event_finders.specs.UnitLooks.{ClaimsFirst}
use Rattle.event_finders.proofs.CubePrefixes.{times-split}
use Rattle.event_finders.proofs.TrailLemmas.{variables_long, stand_variable, words_le}
use Rattle.event_finders.proofs.ListedEvents.{below_count}

-- what a test for 1 tells of a mark
pub mark_is : (w : ℕ) → w ≤ 1 → (b : Bool) → b ≡ (w == 1) → w ≡ cond b 1 0
mark_is zero small b is = ap (λ x. cond x 1 0) (sym is)
mark_is (suc zero) small b is = ap (λ x. cond x 1 0) (sym is)
mark_is (suc (suc w)) small b is = absurd (omega arith)

-- the view after a take, from the one with room
pub took : (d r e : View) (u : ℕ) (b : Bool) → r ≡ d → Takes r u e b → e ≡ taken_by d u (cond b 1 0)
took d r e u b room t =
    t.1 ∙ ap (λ (x : View). taken_by x u t.0) room ∙ ap (taken_by d u) (mark_is t.0 t.2 b t.3)

-- A try so far: d is the view before the call, a the one once the mark of u was taken, and e the one after the claims of
-- the first n variables of the cube, of which the first m are held.
pub record Started (k : Opening) (i : Instance) (d a e : View) (u : ℕ) (cube : Cube) (n m : ℕ) : Type 0 where
  pub same : k.instance.value ≡ i
  pub live : d.opening ≡ Some k
  pub idle : (d.held ≡ []) × (d.taken ≡ []) × (d.owed ≡ [])
  pub event : IsListedEvent i u cube
  pub is : IsCube cube
  pub took : a ≡ taken_by d u 1
  pub first : ClaimsFirst a e cube n m

module _ {k : Opening} {i : Instance} {d a e : View} {u : ℕ} {cube : Cube} {n m : ℕ}
    (s : Started k i d a e u cube n m) where
  -- the word of the mark
  abbrev mark : ℕ
  mark = mark_of (count_in d.opening) u

  -- changes has its entry
  pub changes_all : e.changes ≡ d.changes ++ (u, 1, 0) ∷ []
  changes_all = s.first.same.changes ∙ ap (λ (x : View). x.changes) s.took

  -- and those that came behind it
  pub changes_then : (f : View) (cs : List Change) → f.changes ≡ e.changes ++ cs
      → f.changes ≡ d.changes ++ ((u, 1, 0) ∷ cs)
  changes_then f cs to = to ∙ ap (λ (l : List Change). l ++ cs) changes_all
      ∙ append_assoc d.changes ((u, 1, 0) ∷ []) cs

  -- seen has its entry and those of the claims
  seen_all : e.seen ≡ d.seen ++ ((mark, 1) ∷ gained a e)
  seen_all = s.first.grows ∙ ap (λ (x : View). x.seen ++ gained a e) s.took
      ∙ append_assoc d.seen ((mark, 1) ∷ []) (gained a e)

  module _ (f : View) (seen : f.seen ≡ e.seen) where
    -- so this is what seen gained up to the end
    pub gained_all : gained d f ≡ (mark, 1) ∷ gained a e
    gained_all = ap (drop (length d.seen)) (seen ∙ seen_all)
        ∙ drop_at d.seen ((mark, 1) ∷ gained a e) (length d.seen) refl

    -- the mark was found
    pub mark_found : In (mark, 1) (gained d f)
    mark_found = subst (In (mark, 1)) (sym gained_all) (inl refl)

    -- what was entered in the claims was so in the call
    pub entered_all : (v : ℕ) (answer : Claim) → Entered (gained a e) v answer → Entered (gained d f) v answer
    entered_all v answer x = (x.0, subst (In (word_of v, x.0)) (sym gained_all) (inr x.1), x.2)

    -- the claims saw a word no more often than the event names its variable
    few : (j : ℕ) → times j (gained a e) ≤ times (j - 1) cube
    few j = omega (
      arith,
      sym (times-variables j (gained a e)) ∙ ap (times_in j) s.first.words,
      words_le j (variables (take n cube)),
      times-variables (j - 1) (take n cube),
      times-split (j - 1) n cube,
    )

    -- none behind the last
    no_mark : (v : ℕ) → count_in d.opening ≤ v → times v cube ≡ 0
    no_mark v high = sym (times-variables v cube) ∙ nowhere v (variables cube) (λ j less is.
        let near = below_count k i d u cube s.same s.live s.event j (0, 0) (omega (arith, less, variables_long cube)) in
        absurd (omega (arith, near, stand_variable cube j, is, high)))

    -- each word has one entry at most
    pub sees_once : SeesWithin 1 d f
    sees_once = record {
      added = gained d f;
      seen = seen ∙ seen_all ∙ ap (λ (l : Pairs). d.seen ++ l) (sym gained_all);
      within = λ j. dite (ℕ_discrete mark j)
          (λ here. omega (
            arith,
            ap (times j) gained_all,
            is_at-yes j (mark, 1) here,
            few j,
            no_mark (j - 1) (omega (arith, here)),
          ))
          (λ ne. omega (arith, ap (times j) gained_all, is_at-no j (mark, 1) ne, few j, once cube s.is.rising (j - 1)));
    }
