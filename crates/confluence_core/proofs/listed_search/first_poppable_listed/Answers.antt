use Rattle.std.proofs.Common.{arith, refl, subst, sym, below_more, ◌∙◌}
use Rattle.std.proofs.lemmas.Bool.{false≢true}
use Rattle.pop_model.specs.Popping.{Cube, IsPoppable}
use Rattle.pop_model.specs.Runs.{IsFirstPoppable}
use Rattle.confluence_core.specs.Search.{IsPoppableAt}
use Rattle.confluence_core.specs.Stuck.{event_of}
use Rattle.confluence_core.proofs.Places.{listed, end_from, first_from}
use Rattle.confluence_core.proofs.listed_search.first_poppable_listed.Goals as goal

pub loop-place-preserved : goal.loop-place-preserved
loop-place-preserved c =
    let s = c.args.stacks.now in
    let at = c.args.cursors.now in
    record {
      none = below_more (λ place. IsPoppableAt s at c.args.events.now place
          → ⊥) c.loop-place.place c.loop-place.invariant.none
          (λ h. false≢true (c.if-poppable.ensures.poppable.1 (subst (IsPoppable s at) (sym c.cube-cube.ensures) h)));
      reader = c.if-poppable.ensures.reader ∙ c.loop-place.invariant.reader;
    }

pub returns-then-poppable-clause-first : goal.returns-then-poppable-clause-first
returns-then-poppable-clause-first c =
    let s = c.args.stacks.now in
    let at = c.args.cursors.now in
    let rows = c.args.events.now in
    let place = c.loop-place.place in
    subst (λ (e : Cube). IsFirstPoppable (listed s rows) at (event_of (place, e)))
    (sym (c.in_ok-copy.ensures ∙ c.cube-cube.ensures)) (first_from s at rows place
    (omega (arith, c.loop-place-test.true, c.count-place-end.ensures.count))
    (subst (IsPoppable s at) c.cube-cube.ensures (c.if-poppable.ensures.poppable.0 refl))
    c.loop-place.invariant.none)

pub returns-clause-first : goal.returns-clause-first
returns-clause-first c =
    end_from c.args.stacks.now c.args.cursors.now c.args.events.now
    (λ place h. c.loop-place.invariant.none place (omega arith))
