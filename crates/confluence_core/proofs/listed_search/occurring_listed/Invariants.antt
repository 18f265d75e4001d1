use Rattle.std.proofs.Common.{◌≡◌}
use Rattle.confluence_core.specs.Search.{IsStuckBelow}
use Rattle.confluence_core.proofs.listed_search.occurring_listed.Given as goal

-- the events up to here that occur, and the reader is as it came
abbrev pub invariant-loop-unit : goal.invariant-loop-unit
invariant-loop-unit l = record {
  stuck : IsStuckBelow l.stacks l.cursors l.events l.unit l.stuck;
  reader : l.reader ≡ l.fn.reader;
}
