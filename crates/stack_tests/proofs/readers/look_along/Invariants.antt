use Rattle.pop_stacks.specs.Readers.{Belongs}
use Rattle.stack_tests.proofs.readers.look_along.Given as goal

abbrev pub invariant-loop-k : goal.invariant-loop-k
invariant-loop-k g l = Belongs l.stacks l.reader
