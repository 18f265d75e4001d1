use Rattle.std.proofs.Common.{refl}
use Rattle.pop_model.specs.Families.{Family}
use Rattle.pop_model.specs.Families.Family.{Listed, Cycles}
use Rattle.pop_model.specs.Extremal.{IsExtremal}
use Rattle.pop_model.proofs.CycleFamily as family
use Rattle.cycle_popping.specs.Walks.{AreCycles}
use Rattle.cycle_popping.proofs.walks.run_walks.Goals as goal

-- the family is one of cycles, and these are extremal
extremal : (f : Family) → AreCycles f → IsExtremal f
extremal (Listed rows) are = absurd are
extremal (Cycles heads) are = family.cycles_extremal heads

pub returns-clause-end : goal.returns-clause-end
returns-clause-end c =
    c.in_ok-run.ensures.run.first (extremal c.args.instance.now.family c.requires.cycles) refl
