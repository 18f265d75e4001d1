use Rattle.pop_stacks.specs.Rows.{lists_of}
use Rattle.pop_rows.proofs.SumsInPlace.{AreAccumulated}
use Rattle.pop_stacks.proofs.prefix_sums.accumulate_rows.Given as goal

abbrev pub invariant-loop-v : goal.invariant-loop-v
invariant-loop-v l = AreAccumulated (lists_of l.fn.rows.items) l.v (lists_of l.rows.items)
