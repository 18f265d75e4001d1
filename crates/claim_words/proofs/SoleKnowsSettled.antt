-- For a pass that is the only one, the records are a legal log. No cycle that is poppable at its end has a variable
-- that the pass knows to be settled.
use Rattle.std.proofs.Common.{◌≡◌, ℕ, ◌+◌, ◌<◌, ◌≤◌, true, false, get_or, refl, sym, ap, ◌∙◌, subst, arith, Some}
use mathlib.Core.Logic.{dite}
use mathlib.Core.Option.{some}
use native.Mathlib.Decide.{dec_le}
use lib.ListN.{get_elem?}
use Rattle.std.proofs.lemmas.Option.{same_Some}
use Rattle.atomic_table.specs.Table.{State}
use Rattle.pop_model.specs.Popping.{IsPoppable, names}
use Rattle.pop_model.specs.Families.{Event, Family, IsEvent}
use Rattle.pop_model.specs.Families.Family.{Listed, Cycles}
use Rattle.claim_words.specs.declared.view.View.{View}
use Rattle.claim_words.specs.declared.opening.Opening.{Opening}
use Rattle.claim_words.specs.Words.{cursor_in, settled_bit, Formed}
use Rattle.claim_words.specs.Maps.{total, times}
use Rattle.claim_words.specs.Openings.{count, is_listed}
use Rattle.claim_words.specs.Machine.{abstract, IsSettledAt, Sound}
use Rattle.claim_words.specs.TicketLogs.{IsLegalFrom, vector}
use Rattle.claim_words.specs.Tells.{NoneSettled, SoleKnows}
use Rattle.claim_words.proofs.Totals.{each-look, total-none}
use Rattle.claim_words.proofs.SoleHasAll.{sole_leads}
use Rattle.claim_words.proofs.NoSettledCycle.{unpoppable}

-- true isn't false
pub true-false : true ≡ false → ⊥
true-false e = cc

-- no advance is due of what no pass holds
pub none_due : {S : Type 0} (k : Opening) (s : State S View) (o : Sound k s) (v : ℕ)
    → total (λ (x : View). times v x.held) s.views ≡ 0 → total (λ (x : View). times v x.due) s.views ≡ 0
none_due k s o v none = total-none (λ (x : View). times v x.held) (λ (x : View). times v x.due) s.views
    (λ j x at zero. omega (arith, (o.agree j x at).due v)) none

-- what a sole pass of the board knows
pub sole_knows : {S : Type 0} (k : Opening) (s : State S View) (o : Sound k s) (id : ℕ) (d : View)
    → get_elem? s.views id ≡ some d → d.opening ≡ Some k → SoleKnows d
sole_knows k s o id d me live = λ h other sole.
    subst (λ (x : Opening). IsLegalFrom x d.mine × NoneSettled x d) (same_Some k h (sym live ∙ other)) (
      (sole_leads k s o id d me sole).legal,
      λ e cycles event poppable v there. dite (dec_le 1 (times v d.settled))
          (λ known. absurd (refuted sole e cycles event poppable v there known k.instance.value.family refl))
          (λ none. omega arith),
    )
  where
    -- no pass due the advance of a settled variable
    still : (u : ℕ) → u < count k → settled_bit (get_or s.words (1 + u) 0) ≡ 1
        → abstract k s u ≡ cursor_in (get_or s.words (1 + u) 0)
    still u near settled = let f : Formed (get_or s.words (1 + u) 0) = o.formed u near in let f₂ = f.2 in
        omega (arith, none_due k s o u (omega (arith, o.held_once u near)))

    -- a poppable cycle has no variable that it knows to be settled
    refuted : d.share ≡ 64 → (e : Event) → is_listed k.instance.value.family ≡ false
        → IsEvent k.instance.value.family e
        → IsPoppable k.instance.value.stacks (vector k d.mine) e.cube
        → (v : ℕ) → names e.cube v ≡ true → 1 ≤ times v d.settled → (f : Family) → k.instance.value.family ≡ f → ⊥
    refuted sole e cycles event poppable v there known (Listed rows) is = true-false (sym (ap is_listed is) ∙ cycles)
    refuted sole e cycles event poppable v there known (Cycles heads) is =
        let at = each-look (IsSettledAt k s.words) d.settled v known (o.agree id d me).knows in
        let cycle : IsEvent (Cycles heads) e = subst (λ (f : Family). IsEvent f e) is event in
        unpoppable k s.words (vector k d.mine) heads is
        (λ u h settled. (sole_leads k s o id d me sole).cursors u h ∙ still u h settled) e.cube cycle.0 poppable v at.0 at.1 there
        (o.leads v at.0 at.1)
