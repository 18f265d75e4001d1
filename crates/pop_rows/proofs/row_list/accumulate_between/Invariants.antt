use Rattle.pop_rows.specs.RowList.{rows_between, AreEndToEnd}
use Rattle.pop_rows.proofs.SumsInPlace.{AreAccumulated}
use Rattle.pop_rows.proofs.row_list.accumulate_between.Given as goal

-- the rows lie as before, and those up to here are rows of sums
abbrev pub invariant-loop-v : goal.invariant-loop-v
invariant-loop-v l = record {
  laid : AreEndToEnd l.starts l.items;
  summed : AreAccumulated (rows_between l.starts l.fn.items) l.v (rows_between l.starts l.items);
}
