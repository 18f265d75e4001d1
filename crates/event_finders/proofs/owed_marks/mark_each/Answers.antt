use Rattle.std.proofs.Common.{arith, ℕ, List, [], ◌∷◌, sym, subst, ◌<◌, take, get_or, length}
use Rattle.std.proofs.lemmas.List.{take_more}
use Rattle.claim_words.specs.declared.view.View.{View}
use Rattle.claim_words.specs.Passes.{view}
use Rattle.event_finders.specs.OwedMarks.{Marked}
use Rattle.event_finders.proofs.OwedMarksLemmas.{marked_none, marked_one, marked_then}
use Rattle.event_finders.proofs.owed_marks.mark_each.Goals as goal

pub loop-unit-init : goal.loop-unit-init
loop-unit-init c = record { pass = c.requires.pass; marked = marked_none (view c.args.pass.now) }

pub loop-unit-preserved : goal.loop-unit-preserved
loop-unit-preserved c =
    let i : ℕ = c.loop-unit.unit-index in
    let us : List ℕ = c.args.units.now in
    let d : View = view c.args.pass.now in
    let u : ℕ = get_or us i 0 in
    let within : i < length us = omega (arith, c.loop-unit-test.true) in
    let x : View = view c.loop-unit.pass in let e : View = view c.mark.new.pass in
    let step = c.mark.ensures.step in
    record {
      pass = c.mark.ensures.pass;
      marked = subst (λ (l : List ℕ). Marked l d e) (sym (take_more us i 0 within))
          (marked_then (take i us) (u ∷ []) d x e c.loop-unit.invariant.marked (marked_one u step.0 x e step.1));
    }
