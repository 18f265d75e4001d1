use Rattle.pop_stacks.specs.Readers.{Belongs}
use Rattle.stack_tests.proofs.first_blocks.compare_all.Given as goal

-- the reader is of the stacks
abbrev pub invariant-loop-v : goal.invariant-loop-v
invariant-loop-v g l = Belongs l.stacks l.keeping

-- the reader is of the stacks
abbrev pub invariant-loop-v-2 : goal.invariant-loop-v-2
invariant-loop-v-2 g l = Belongs l.stacks l.keeping
