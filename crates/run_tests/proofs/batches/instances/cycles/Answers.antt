use Rattle.std.proofs.Common.{sym, ap, subst}
use Rattle.pop_model.specs.Instances.{Instance}
use Rattle.pop_model.specs.Extremal.{IsExtremal}
use Rattle.pop_model.proofs.CycleFamily as family
use Rattle.run_tests.proofs.batches.instances.cycles.Goals as goal

pub returns-clause-extremal : goal.returns-clause-extremal
returns-clause-extremal g c =
    let is = rw c.expect-instance.ensures at c.new.ensures in
    subst IsExtremal (sym (ap (λ (i : Instance). i.family) is)) (family.cycles_extremal c.arrows-arrows.result)
