use Rattle.std.proofs.Common.{refl, sym, subst, arith}
use Rattle.std.proofs.lemmas.Bool.{false≢true}
use Rattle.pop_model.specs.Popping.{IsPoppable}
use Rattle.pop_model.specs.Families.{Event}
use Rattle.confluence_core.specs.Stuck.{event_of}
use Rattle.confluence_core.proofs.EventVariables.{event_below}
use Rattle.run_cert.proofs.StuckEvents.{stuck_event, stuck_place}
use Rattle.run_cert.proofs.looking.is_open.Goals as goal

pub poppable-requires-clause-known : goal.poppable-requires-clause-known
poppable-requires-clause-known c k d within =
    let i = c.args.instance.now in
    let e : Event = event_of (c.at.result.0, c.at.result.1.now) in
    let is = stuck_event i c.args.cursors.now c.args.stuck.now c.requires.stuck_list c.loop-i.i e c.at.ensures in
    let below = event_below i e c.units-units.ensures.instance.fits is.0 k d within in
    omega (arith, below, c.requires.count)

pub returns-then-poppable : goal.returns-then-poppable
returns-then-poppable c =
    let i = c.args.instance.now in
    let e : Event = event_of (c.at.result.0, c.at.result.1.now) in
    let is = stuck_event i c.args.cursors.now c.args.stuck.now c.requires.stuck_list c.loop-i.i e c.at.ensures in (
      λ _. (
        e,
        is.0,
        subst (λ s. IsPoppable s c.args.cursors.now e.cube) c.stacks-stacks.ensures
            (c.if-poppable.ensures.poppable.0 refl),
      ),
      λ _. refl,
    )

pub returns : goal.returns
returns c =
    let i = c.args.instance.now in (
      λ no. absurd (false≢true no),
      λ (e, is, pop). absurd (
          let place = stuck_place i c.args.cursors.now c.args.stuck.now c.requires.stuck_list e is pop.occurs in
          c.loop-i.invariant.none place.0 e (omega (arith, place.1, c.len-i-end.ensures, c.loop-i-test.false)) place.2
          (subst (λ s. IsPoppable s c.args.cursors.now e.cube) (sym c.stacks-stacks.ensures) pop)
          ),
    )
