use Rattle.std.proofs.Common.{◌≡◌, take}
use Rattle.pop_print.specs.Made.{greatest}
use Rattle.pop_print.proofs.counts.greatest_of.Given as goal

-- the greatest of the cursors up to here
abbrev pub invariant-loop-v : goal.invariant-loop-v
invariant-loop-v l = l.most ≡ greatest (take l.v l.cursors)
