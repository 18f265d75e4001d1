use Rattle.std.proofs.Common.{◌+◌, ◌<◌, sym, subst, ◌∙◌}
use Rattle.std.proofs.lemmas.Bool.{false≢true}
use Rattle.pop_model.specs.Stacks.{height_of}
use Rattle.pop_model.specs.Popping.{HasNext, cursor}
use Rattle.confluence_core.specs.Loops.{HaveNext}
use Rattle.confluence_core.specs.ArrowWalks.{HasNoCycle, IsClosedWalk}
use Rattle.confluence_core.proofs.LoopCubes.{loop_all}
use Rattle.confluence_core.proofs.ClosedWalks.{least_is, through_least}
use Rattle.confluence_core.proofs.LeastCycles.{one_cycle}
use Rattle.confluence_core.proofs.cycle_search.poppable_from.Goals as goal

pub returns-in_default-clause-poppable : goal.returns-in_default-clause-poppable
returns-in_default-clause-poppable c e cycle first poppable =
    let none : HasNoCycle c.args.current.now c.args.cursors.now c.args.start c.args.start =
    rw c.in_default.is at c.in_ok-members.ensures.walk in
    none e (through_least cycle poppable.occurs first)

pub returns-then-not-have_next-clause-poppable : goal.returns-then-not-have_next-clause-poppable
returns-then-not-have_next-clause-poppable c e cycle first poppable =
    let t = c.args.current.now in
    let at = c.args.cursors.now in
    let members = c.in-Some.members.items in
    let walk : IsClosedWalk t at c.args.start c.args.start members = rw c.in-Some.is at c.in_ok-members.ensures.walk in
    let same = one_cycle t at e walk.cube cycle walk.through.cycle poppable.occurs walk.through.occurs
    (first ∙ sym (least_is walk.through)) in
    let next : HaveNext t at members = loop_all t at members walk.cube walk.is_cube
    (λ v. cursor at v + 1 < height_of t.stacks v) (subst (HasNext t.stacks at) same poppable.next) in
    false≢true (c.if-not-have_next.ensures.1 (subst (HaveNext t at) (sym c.deref.ensures.value) next))
