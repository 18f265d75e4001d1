use Rattle.std.proofs.Common.{All}
use Rattle.pop_model.specs.Popping.{NamesBelow}
use Rattle.log_tests.proofs.records.log_of.Given as goal

-- the variables of the records so far are below the count
abbrev pub invariant-loop-unit : goal.invariant-loop-unit
invariant-loop-unit g l = All (λ r. NamesBelow r.event.cube l.count) l.log
