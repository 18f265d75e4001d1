use Rattle.pop_stacks.specs.Readers.{Belongs}
use Rattle.stack_tests.proofs.first_blocks.compare_places.Given as goal

-- the reader is of the stacks
abbrev pub invariant-loop-k : goal.invariant-loop-k
invariant-loop-k g l = Belongs l.stacks l.keeping
