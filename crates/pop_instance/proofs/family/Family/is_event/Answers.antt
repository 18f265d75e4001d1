use Rattle.std.proofs.Common.{ap, refl, subst, sym}
use Rattle.pop_model.specs.Cycles.{first_of}
use Rattle.pop_instance.specs.Family.{family_of, HasEvent}
use Rattle.pop_instance.proofs.ListedEvents.{event_is_row, row_is_event}
use Rattle.pop_instance.proofs.family.Family.is_event.Goals as goal

pub returns-in-Listed : goal.returns-in-Listed
returns-in-Listed c =
    let e = c.args.cube.now in
    let is = ap family_of c.in-Listed.is in (
      λ yes'. subst (λ f. HasEvent f e) (sym is) (row_is_event c.in-Listed.events e (c.has.ensures.0 yes')),
      λ has. c.has.ensures.1 (event_is_row c.in-Listed.events e (subst (λ f. HasEvent f e) is has)),
    )

pub returns-in-Cycles : goal.returns-in-Cycles
returns-in-Cycles c =
    let e = c.args.cube.now in
    let is = ap family_of c.in-Cycles.is in (
      λ yes'. subst (λ f. HasEvent f e) (sym is) (first_of e, (c.is_cycle.ensures.0 yes', refl)),
      λ has. c.is_cycle.ensures.1 (subst (λ f. HasEvent f e) is has).1.0,
    )
