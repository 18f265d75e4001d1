use Rattle.std.proofs.Common.{◌≡◌, length}
use Rattle.confluence_core.specs.Search.{Covers}
use Rattle.confluence_core.proofs.listed_search.next_below.Given as goal

-- the list covers the poppable events, and the reader is as it came
abbrev pub invariant-loop-unit : goal.invariant-loop-unit
invariant-loop-unit l = record {
  units : l.work.units ≡ l.fn.work.units;
  covers : Covers l.stacks l.cursors l.events l.work.list;
  reader : l.reader ≡ l.fn.reader;
}

abbrev pub decreases-loop-unit : goal.decreases-loop-unit
decreases-loop-unit l = length l.work.list
