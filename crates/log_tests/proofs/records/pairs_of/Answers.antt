use Rattle.log_tests.proofs.records.pairs_of.Goals as goal

pub returns : goal.returns
returns g c = c.loop-v.invariant
