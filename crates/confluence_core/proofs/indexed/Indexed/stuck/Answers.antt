use Rattle.std.proofs.Common.{refl, sym, subst}
use Rattle.pop_model.specs.Instances.{Instance, FamilyFits}
use Rattle.pop_model.specs.Runs.{IsStuckList}
use Rattle.confluence_core.specs.Search.{AllHaveNext}
use Rattle.confluence_core.proofs.StuckLists.{none_stuck}
use Rattle.confluence_core.proofs.indexed.Indexed.stuck.Goals as goal

pub returns-then-all_have_next-clause-stuck_list : goal.returns-then-all_have_next-clause-stuck_list
returns-then-all_have_next-clause-stuck_list c =
    let at = c.args.reached.now.cursors in
    subst (IsStuckList c.args.self.now at) (sym c.new.ensures)
    (none_stuck _ c.args.reached.now
    (subst (λ (x : Instance). FamilyFits x.stacks x.family) c.self.view_is c.self.invariant.instance.fits)
    c.requires.can (c.if-is_empty.ensures.0 refl)
    (subst (λ (x : Instance). AllHaveNext x.stacks at) c.self.view_is (c.if-all_have_next.ensures.0 refl)))
