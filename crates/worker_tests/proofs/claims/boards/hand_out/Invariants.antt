use Rattle.std.proofs.Common.{◌≡◌, ◌+◌, ◌≤◌, length, vec_capacity}
use Rattle.std.specs.Prelude.{All}
use Rattle.claim_words.specs.Passes.{IsOf, IsIdle, IsHelper, view}
use Rattle.worker_tests.proofs.claims.boards.hand_out.Given as goal

-- the passes so far have what the first one gave
abbrev pub invariant-loop : goal.invariant-loop
invariant-loop g l = record {
  pass : IsOf l.board l.pass × IsIdle l.pass;
  share : (view l.pass).share + l.counter ≡ (view l.initial.pass).share;
  len : length l.passes.items ≡ l.counter;
  capacity : l.others ≤ vec_capacity l.passes;
  passes : All (IsHelper l.board) l.passes.items;
}
