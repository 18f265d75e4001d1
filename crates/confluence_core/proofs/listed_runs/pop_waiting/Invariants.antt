use Rattle.std.proofs.Common.{◌≡◌}
use Rattle.pop_model.proofs.Room.{left_from}
use Rattle.pop_stacks.specs.Readers.{Belongs}
use Rattle.confluence_core.specs.Waiting.{PopsListed}
use Rattle.confluence_core.proofs.listed_runs.pop_waiting.Given as goal

-- the run has gone on to here
abbrev pub invariant-pops : goal.invariant-pops
invariant-pops l = record {
  popped : PopsListed l.stacks l.events l.limit l.fn.reached l.reached l.work;
  belongs : Belongs l.stacks l.reader;
  reader : l.reader ≡ l.fn.reader;
}

abbrev pub decreases-pops : goal.decreases-pops
decreases-pops l = left_from l.stacks 0 l.reached.cursors
