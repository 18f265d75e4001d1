use Rattle.std.proofs.Common.{refl, sym, ap, subst, ◌∙◌, arith}
use Rattle.std.proofs.lemmas.Bool.{false≢true}
use Rattle.pop_model.specs.Popping.{IsPoppable}
use Rattle.confluence_core.specs.Search.{Covers}
use Rattle.confluence_core.specs.WorkList.{Waiting}
use Rattle.confluence_core.proofs.Covering.{covers_rest}
use Rattle.confluence_core.proofs.listed_search.next_below.Goals as goal

pub returns-then-poppable-clause-next : goal.returns-then-poppable-clause-next
returns-then-poppable-clause-next c =
    let s = c.args.stacks.now in
    let at = c.args.cursors.now in
    let rows = c.args.events.now in (
      c.if-not-is_below.false,
      record {
        within = omega (arith, c.in-Some.ensures.known, c.loop-unit.invariant.units, c.requires.units);
        poppable = subst (IsPoppable s at) c.cube.ensures (c.if-poppable.ensures.poppable.0 refl);
        others = subst (Covers s at rows) c.in-Some.ensures.list c.loop-unit.invariant.covers;
      },
    )

pub loop-unit-preserved : goal.loop-unit-preserved
loop-unit-preserved c =
    let s = c.args.stacks.now in
    let at = c.args.cursors.now in
    let rows = c.args.events.now in
    let place = c.in-Some.unit in
    record {
      units = c.in-Some.ensures.units ∙ c.loop-unit.invariant.units;
      covers = covers_rest s at rows c.take.new.self.list place
          (subst (Covers s at rows) c.in-Some.ensures.list c.loop-unit.invariant.covers)
          (λ h. false≢true (c.if-poppable.ensures.poppable.1 (subst (IsPoppable s at) (sym c.cube.ensures) h)));
      reader = c.if-poppable.ensures.reader ∙ c.loop-unit.invariant.reader;
    }

pub returns-clause-next : goal.returns-clause-next
returns-clause-next c = (
  λ below. ap (λ (w : Waiting). w.list) c.in_default.ensures.1 ∙ c.in_default.ensures.0,
  subst (λ (w : Waiting). Covers c.args.stacks.now c.args.cursors.now c.args.events.now w.list)
      (sym c.in_default.ensures.1) c.loop-unit.invariant.covers,
)
