use Rattle.log_tests.proofs.records.log_of.Goals as goal

pub returns : goal.returns
returns g c = c.loop-unit.invariant
