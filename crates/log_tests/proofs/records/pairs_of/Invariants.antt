use Rattle.pop_model.specs.Popping.{NamesBelow}
use Rattle.log_tests.proofs.records.pairs_of.Given as goal

-- the variables so far are below the count
abbrev pub invariant-loop-v : goal.invariant-loop-v
invariant-loop-v g l = NamesBelow l.pairs.items l.count
