use Rattle.std.proofs.Common.{◌≡◌}
use Rattle.confluence_core.specs.Search.{NoneBefore}
use Rattle.confluence_core.proofs.listed_search.first_poppable_listed.Given as goal

-- no event up to here is poppable, and the reader is as it came
abbrev pub invariant-loop-place : goal.invariant-loop-place
invariant-loop-place l = record {
  none : NoneBefore l.stacks l.cursors l.events l.place;
  reader : l.reader ≡ l.fn.reader;
}
