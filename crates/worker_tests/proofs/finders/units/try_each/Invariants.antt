use Rattle.std.proofs.Common.{◌≡◌}
use Rattle.pop_stacks.specs.Readers.{Belongs}
use Rattle.claim_words.specs.Passes.{IsOf, IsIdle, view}
use Rattle.worker_tests.proofs.finders.units.try_each.Given as goal

-- the pass is idle between tries
abbrev pub invariant-loop-unit : goal.invariant-loop-unit
invariant-loop-unit g l = record {
  pass : IsOf l.board l.pass;
  idle : IsIdle l.pass;
  share : (view l.pass).share ≡ (view l.initial.pass).share;
  reader : Belongs l.instance.stacks l.reader;
}
