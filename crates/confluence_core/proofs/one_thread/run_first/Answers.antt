use Rattle.std.proofs.Common.{◌<◌, ◌+◌, length, sym, ap, subst, ◌∙◌, arith}
use Rattle.std.proofs.lemmas.List.{length-replicate}
use Rattle.pop_model.specs.Stacks.{variables_of}
use Rattle.pop_model.specs.Popping.{AreWithin}
use Rattle.pop_model.specs.Runs.{IsEnd, IsFirstPoppable, start_of}
use Rattle.pop_model.proofs.PopLemmas.{length-pop}
use Rattle.pop_model.proofs.Room.{left_from, within_pop}
use Rattle.pop_stacks.specs.Readers.{Belongs}
use Rattle.confluence_core.specs.Stuck.{event_of}
use Rattle.confluence_core.proofs.EventVariables.{event_falls, event_known, next_low, pops_fit}
use Rattle.confluence_core.proofs.FirstRuns.{CanComplete, complete_more, complete_end}
use Rattle.confluence_core.proofs.one_thread.run_first.Goals as goal

pub pop-requires-clause-known : goal.pop-requires-clause-known
pop-requires-clause-known c =
    let i = c.args.instance.now in
    let e = event_of (c.in-Some.field-0-0, c.in-Some.cube) in
    let first : IsFirstPoppable i c.pops.cursors e = rw c.in-Some.is at c.in_ok-cube.ensures.first in
    event_known i e c.pops.cursors c.units-units.ensures.instance.fits first.event c.pops.invariant.count

pub pop-requires-clause-room : goal.pop-requires-clause-room
pop-requires-clause-room c =
    let i = c.args.instance.now in
    let e = event_of (c.in-Some.field-0-0, c.in-Some.cube) in
    let first : IsFirstPoppable i c.pops.cursors e = rw c.in-Some.is at c.in_ok-cube.ensures.first in
    next_low i.stacks c.pops.cursors e.cube c.units-units.ensures.instance.table first.poppable.next

pub overflow_add-pops : goal.overflow_add-pops
overflow_add-pops c =
    let i = c.args.instance.now in
    let fits = pops_fit i.stacks (start_of i) c.units-units.ensures.instance.table
    (sym (length-replicate (variables_of i.stacks) 0)) in
    omega (arith, fits, c.pops.invariant.room)

pub pops-smaller : goal.pops-smaller
pops-smaller c =
    let i = c.args.instance.now in
    let is = c.units-units.ensures.instance in
    let at = c.pops.cursors in
    let e = event_of (c.in-Some.field-0-0, c.in-Some.cube) in
    let first : IsFirstPoppable i at e = rw c.in-Some.is at c.in_ok-cube.ensures.first in
    subst (λ d. left_from i.stacks 0 d < left_from i.stacks 0 at) (sym c.pop.ensures)
    (event_falls i e at is.family is.fits first.event c.pops.invariant.count first.poppable.next)

pub pops-preserved : goal.pops-preserved
pops-preserved c =
    let i = c.args.instance.now in
    let is = c.units-units.ensures.instance in
    let at = c.pops.cursors in
    let old = c.pops.invariant in
    let e = event_of (c.in-Some.field-0-0, c.in-Some.cube) in
    let first : IsFirstPoppable i at e = rw c.in-Some.is at c.in_ok-cube.ensures.first in
    let next = first.poppable.next in
    let falls = event_falls i e at is.family is.fits first.event old.count next in
    let same = ap (left_from i.stacks 0) c.pop.ensures in
    record {
      count = old.count ∙ sym (length-pop at e.cube) ∙ ap length (sym c.pop.ensures);
      within = subst (AreWithin i.stacks) (sym c.pop.ensures)
          (within_pop i.stacks at e.cube old.count next old.within);
      room = omega (arith, falls, same, old.room);
      belongs = subst (Belongs i.stacks) (sym c.first_poppable.ensures.reader) old.belongs;
      run = subst (λ d. CanComplete i d (c.pops.pops + 1)) (sym c.pop.ensures)
          (complete_more i at c.pops.pops e first old.run);
    }

pub returns-clause-end : goal.returns-clause-end
returns-clause-end c =
    let i = c.args.instance.now in
    let end : IsEnd i c.pops.cursors = rw c.in_default.is at c.in_ok-cube.ensures.first in
    complete_end i c.pops.cursors c.pops.pops c.in_ok-stuck.stuck c.pops.invariant.run end
    c.in_ok-stuck.ensures.stuck_list
