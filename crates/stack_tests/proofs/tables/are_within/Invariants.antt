use Rattle.std.proofs.Common.{◌<◌, ℕ}
use Rattle.pop_model.specs.Stacks.{height_of}
use Rattle.pop_model.specs.Popping.{cursor}
use Rattle.stack_tests.proofs.tables.are_within.Given as goal

-- the variables up to here have an entry at their cursors
abbrev pub invariant-loop-v : goal.invariant-loop-v
invariant-loop-v l = (w : ℕ) → w < l.v → cursor l.cursors w < height_of l.stacks w
