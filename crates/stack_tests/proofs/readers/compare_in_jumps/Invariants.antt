use Rattle.pop_stacks.specs.Readers.{Belongs}
use Rattle.stack_tests.proofs.readers.compare_in_jumps.Given as goal

-- the reader is of the stacks
abbrev pub invariant-loop-step : goal.invariant-loop-step
invariant-loop-step g l = Belongs l.stacks l.keeping
