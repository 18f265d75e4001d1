use Rattle.std.proofs.Common.{◌≡◌, ◌≤◌, ◌+◌, length}
use Rattle.pop_model.specs.Stacks.{variables_of}
use Rattle.pop_model.specs.Popping.{AreWithin}
use Rattle.pop_model.specs.Runs.{start_of}
use Rattle.pop_model.proofs.Room.{left_from}
use Rattle.pop_stacks.specs.Readers.{Belongs}
use Rattle.confluence_core.proofs.FirstRuns.{CanComplete}
use Rattle.confluence_core.proofs.one_thread.run_first.Given as goal

-- the pops so far begin a run, and there is room for the pops to come
abbrev pub invariant-pops : goal.invariant-pops
invariant-pops l = record {
  count : variables_of l.instance.stacks ≡ length l.cursors;
  within : AreWithin l.instance.stacks l.cursors;
  room : l.pops + left_from l.instance.stacks 0 l.cursors ≤ left_from l.instance.stacks 0 (start_of l.instance);
  belongs : Belongs l.instance.stacks l.reader;
  run : CanComplete l.instance l.cursors l.pops;
}

abbrev pub decreases-pops : goal.decreases-pops
decreases-pops l = left_from l.instance.stacks 0 l.cursors
