use Rattle.std.proofs.Common.{◌≡◌}
use Rattle.claim_words.specs.Passes.{IsOf, IsIdle, view}
use Rattle.worker_tests.proofs.claims.working.work.Given as goal

-- the pass is idle between turns
abbrev pub invariant-loop : goal.invariant-loop
invariant-loop g l = IsOf l.board l.pass × IsIdle l.pass × ((view l.pass).share ≡ (view l.initial.pass).share)
