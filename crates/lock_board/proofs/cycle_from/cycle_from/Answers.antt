use Rattle.std.proofs.Common.{◌≡◌, true, length, sym, ap, subst, arith}
use Rattle.pop_model.specs.Popping.{Cube, names}
use Rattle.pop_model.specs.Cycles.{IsCycle}
use Rattle.confluence_core.specs.Loops.{AreMembers, IsCubeOf}
use Rattle.confluence_core.specs.ArrowWalks.{IsClosedWalk, HasNoCycle}
use Rattle.confluence_core.proofs.LoopCubes.{one_cube, cube_occurs}
use Rattle.confluence_core.proofs.CycleVariables.{cycle_below}
use Rattle.confluence_core.proofs.ClosedWalks.{on_cycle_through}
use Rattle.confluence_core.proofs.LeastCycles.{members_short}
use Rattle.lock_board.proofs.cycle_from.cycle_from.Goals as goal

pub closed_walk-requires-clause-known : goal.closed_walk-requires-clause-known
closed_walk-requires-clause-known c =
    let on = c.in-Some.ensures.found.on in
    cycle_below c.args.current.now.heads on.cube c.in-Some.v on.cycle on.named

pub unreachable-requires : goal.unreachable-requires
unreachable-requires c =
    let on = c.in-Some.ensures.found.on in
    let none : HasNoCycle c.args.current.now c.args.cursors.now 0 c.in-Some.v =
    rw c.in_default-2.is at c.in_ok-members.ensures.walk in
    none on.cube (on_cycle_through c.args.current.now c.args.cursors.now c.in-Some.v on)

pub cube_of-requires-clause-members : goal.cube_of-requires-clause-members
cube_of-requires-clause-members c =
    let t = c.args.current.now in
    let walk : IsClosedWalk t c.args.cursors.now 0 c.in-Some.v c.in-Some-2.members.items =
    rw c.in-Some-2.is at c.in_ok-members.ensures.walk in
    subst (AreMembers t) (sym c.deref.ensures.value) walk.are

pub cube_of-requires-clause-short : goal.cube_of-requires-clause-short
cube_of-requires-clause-short c =
    let t = c.args.current.now in
    let members = c.in-Some-2.members.items in
    let walk : IsClosedWalk t c.args.cursors.now 0 c.in-Some.v members =
    rw c.in-Some-2.is at c.in_ok-members.ensures.walk in
    let short = members_short t members walk.are in
    let units = c.count-count.ensures.instance.units in
    omega (arith, short, units, ap length c.deref.ensures.value)

pub returns-clause-found : goal.returns-clause-found
returns-clause-found c =
    let t = c.args.current.now in
    let at = c.args.cursors.now in
    let members = c.in-Some-2.members.items in
    let cube = c.in_ok-cube_of.field-0 in
    let leads = c.in-Some.ensures.found in
    let walk : IsClosedWalk t at 0 c.in-Some.v members = rw c.in-Some-2.is at c.in_ok-members.ensures.walk in
    let here : IsCubeOf t at members cube =
    subst (λ xs. IsCubeOf t at xs cube) c.deref.ensures.value c.in_ok-cube_of.ensures.cube in
    let same = one_cube t at members walk.cube cube walk.is_cube here in
    record {
      cycle = subst (IsCycle t.heads) same walk.through.cycle;
      occurs = cube_occurs t at members cube here;
      leads = (
        leads.steps,
        c.in-Some.v,
        leads.leads,
        subst (λ (e : Cube). names e c.in-Some.v ≡ true) same walk.through.named,
      );
    }
