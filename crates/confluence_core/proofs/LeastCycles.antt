-- Each variable is the least one of at most one cycle that occurs, and a cycle has at most as many as there are.
use Rattle.std.proofs.Common.{◌≡◌, ℕ, ◌≤◌, true, List, length, sym, subst, ◌∙◌, arith}
use Rattle.pop_model.specs.Popping.{Cube, Occurs, names}
use Rattle.pop_model.specs.Cycles.{IsCycle, first_of}
use Rattle.pop_model.proofs.CycleFamily.{first_named, same_cycle, Agree}
use Rattle.pop_model.proofs.Loops.{path_short}
use Rattle.pop_model.proofs.TreeEnd.{occurs_demand}
use Rattle.confluence_core.specs.CycleTables.{CycleTable}
use Rattle.confluence_core.specs.Loops.{AreMembers}
use Rattle.confluence_core.proofs.PathsLemmas.{at_place}

-- there are at most as many members as variables
pub members_short : (t : CycleTable) (members : List ℕ) → AreMembers t members → length members ≤ length t.heads
members_short t members are =
    path_short (at_place members) 0 (length members) (length t.heads)
    (λ j k from less below. are.differ j k 0 less (omega arith)) (λ k from less. are.known k 0 (omega arith))

-- cycles that occur and have one least variable are one
pub one_cycle : (t : CycleTable) (c : List ℕ) (e f : Cube) → IsCycle t.heads e → IsCycle t.heads f → Occurs t.stacks c e
    → Occurs t.stacks c f → first_of e ≡ first_of f → e ≡ f
one_cycle t c e f e_is f_is e_occurs f_occurs same =
    let agree : Agree e f = λ u x y a b.
    sym (occurs_demand t.stacks c e u x e_occurs a) ∙ occurs_demand t.stacks c f u y f_occurs b in
    same_cycle t.heads e f e_is f_is agree (first_of e) (first_named e e_is.cube)
    (subst (λ u. names f u ≡ true) (sym same) (first_named f f_is.cube))
