use Rattle.claim_words.specs.Passes.{IsOf, IsIdle}
use Rattle.worker_tests.proofs.claims.boards.take_back.Given as goal

-- the pass is idle between rejoins
abbrev pub invariant-loop-other : goal.invariant-loop-other
invariant-loop-other g l = IsOf l.board l.pass × IsIdle l.pass
