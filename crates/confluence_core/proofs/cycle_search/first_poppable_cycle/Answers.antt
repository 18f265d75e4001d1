use Rattle.std.proofs.Common.{inl, inr, ◌≡◌, ◌+◌, ◌<◌, List, ℕ, length, refl, sym, ap, subst, arith}
use Rattle.std.proofs.lemmas.Bool.{cases_lt}
use Rattle.pop_model.specs.Stacks.{height_of}
use Rattle.pop_model.specs.Popping.{Cube, cursor}
use Rattle.pop_model.specs.Cycles.{first_of}
use Rattle.pop_model.specs.Runs.{IsEnd, IsFirstPoppable}
use Rattle.pop_model.proofs.CycleFamily.{first_named}
use Rattle.pop_model.proofs.Members.{first_read}
use Rattle.confluence_core.specs.CycleTables.{CycleTable, cycles}
use Rattle.confluence_core.specs.Loops.{AreMembers, IsCubeOf}
use Rattle.confluence_core.specs.LeastVariables.{IsQuietAt, IsPoppableWalk}
use Rattle.confluence_core.specs.Stuck.{event_of}
use Rattle.confluence_core.specs.Walks.{cycle_event}
use Rattle.confluence_core.proofs.ClosedWalks.{least_is}
use Rattle.confluence_core.proofs.CycleVariables.{cycle_below}
use Rattle.confluence_core.proofs.LeastCycles.{members_short}
use Rattle.confluence_core.proofs.LoopCubes.{cube_all, one_cube}
use Rattle.confluence_core.proofs.cycle_search.first_poppable_cycle.Goals as goal

-- the cube of the poppable cycle of least variable is the first poppable event
first_is_poppable : {t : CycleTable} {c members : List ℕ} {start : ℕ} {e : Cube} → IsPoppableWalk t c start members
    → ((v : ℕ) → v < start → IsQuietAt t c v) → IsCubeOf t c members e → IsFirstPoppable (cycles t) c (cycle_event e)
first_is_poppable {t} {c} {members} {start} {e} is none_before cube =
    let walk = is.walk in
    let first = least_is walk.through in
    subst (λ f. IsFirstPoppable (cycles t) c (cycle_event f)) (one_cube t c members walk.cube e walk.is_cube cube)
    (record {
      event = (walk.through.cycle, refl);
      poppable = record {
        occurs = walk.through.occurs;
        next = cube_all t c members walk.cube walk.is_cube (λ v. cursor c v + 1 < height_of t.stacks v) is.next;
      };
      least = λ f event poppable. elim (cases_lt f.unit (first_of walk.cube)) [
        | inl less ↦
            let before : first_of f.cube < start = omega (arith, less, event.1, first) in
            absurd (none_before (first_of f.cube) before f.cube event.0 refl poppable)
        | inr more ↦ more
      ];
    })

pub cube_of-requires-clause-members : goal.cube_of-requires-clause-members
cube_of-requires-clause-members c =
    let t = c.of-current.result in
    let is : IsPoppableWalk t c.args.cursors.now c.loop-v.v c.in-Some.members.items =
    rw c.in-Some.is at c.in_ok-members.ensures.poppable in
    subst (AreMembers t) (sym c.deref.ensures.value) is.walk.are

pub cube_of-requires-clause-short : goal.cube_of-requires-clause-short
cube_of-requires-clause-short c =
    let t = c.of-current.result in
    let is : IsPoppableWalk t c.args.cursors.now c.loop-v.v c.in-Some.members.items =
    rw c.in-Some.is at c.in_ok-members.ensures.poppable in
    let short = members_short t c.in-Some.members.items is.walk.are in
    let units = c.count-v-end.ensures.instance.units in
    omega (arith, short, units, ap length c.deref.ensures.value)

pub returns-in-Some-clause-first : goal.returns-in-Some-clause-first
returns-in-Some-clause-first c =
    let t = c.of-current.result in
    let at = c.args.cursors.now in
    let cube = c.in_ok-cube.cube in
    let is : IsPoppableWalk t at c.loop-v.v c.in-Some.members.items =
    rw c.in-Some.is at c.in_ok-members.ensures.poppable in
    let first = first_is_poppable is c.loop-v.invariant.quiet
    (subst (λ xs. IsCubeOf t at xs cube) c.deref.ensures.value c.in_ok-cube.ensures.cube) in
    let event : cycle_event cube ≡ event_of (c.pair-unit.result.0, cube) =
    ap (λ u. event_of (u, cube)) (first_read cube c.pair-unit.result c.pair-unit.ensures) in
    let found = event_of (c.pair-unit.result.0, cube) in
    subst (λ (u : CycleTable). IsFirstPoppable (cycles u) at found) c.of-current.ensures
    (subst (IsFirstPoppable (cycles t) at) event first)

pub returns-clause-first : goal.returns-clause-first
returns-clause-first c =
    let t = c.of-current.result in
    subst (λ (u : CycleTable). IsEnd (cycles u) c.args.cursors.now) c.of-current.ensures (λ e (cycle, unit) poppable.
    let below = cycle_below t.heads e.cube (first_of e.cube) cycle (first_named e.cube cycle.cube) in
    c.loop-v.invariant.quiet (first_of e.cube)
    (omega (arith, below, c.count-v-end.ensures.count, c.loop-v-test.false)) e.cube cycle refl poppable)
