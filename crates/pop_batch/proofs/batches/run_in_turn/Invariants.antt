use Rattle.std.specs.List.{AllZip, range_with_len}
use Rattle.pop_batch.specs.Batches.{IsSampleEnd}
use Rattle.pop_batch.proofs.batches.run_in_turn.Given as goal

-- the ends of the samples before this one
abbrev pub invariant-loop-j : goal.invariant-loop-j
invariant-loop-j l = AllZip (IsSampleEnd l.samples) (range_with_len 0 l.j) l.ends.items
