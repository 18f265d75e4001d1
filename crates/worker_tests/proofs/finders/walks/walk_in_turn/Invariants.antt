use Rattle.std.proofs.Common.{◌≡◌}
use Rattle.claim_words.specs.Passes.{IsOf, IsIdle}
use Rattle.worker_tests.proofs.finders.walks.walk_in_turn.Given as goal

-- the pass and the walker are idle between walks
abbrev pub invariant-loop-turn : goal.invariant-loop-turn
invariant-loop-turn g l = record {
  pass : IsOf l.board l.pass;
  idle : IsIdle l.pass;
  walker : l.walker ≡ l.initial.walker;
}
