use Rattle.std.proofs.Common.{◌<◌, length, All}
use Rattle.pop_stacks.specs.Readers.{Belongs}
use Rattle.stack_tests.proofs.values.readers_of.Given as goal

-- there is a reader, and each is one of the stacks
abbrev pub invariant-loop : goal.invariant-loop
invariant-loop g l = (0 < length l.readers.items) × All (Belongs l.stacks) l.readers.items
