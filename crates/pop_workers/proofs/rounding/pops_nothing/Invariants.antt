use Rattle.claim_words.specs.Passes.{view, opening_of}
use Rattle.pop_workers.specs.AtWork.{HasTools, KeepsTools, IsSoleOn}
use Rattle.pop_workers.specs.Attempts.{IsRound}
use Rattle.pop_workers.proofs.rounding.pops_nothing.Given as goal

-- the sole pass is idle, and the round came so far
abbrev pub invariant-loop-unit : goal.invariant-loop-unit
invariant-loop-unit g l = record {
  pass : IsSoleOn l.board l.pass;
  round : IsRound (opening_of l.board) (view l.initial.pass) (view l.pass) l.unit l.nothing;
  has : HasTools l.shared l.tools;
  keeps : KeepsTools l.shared.instance.now l.initial.tools l.tools;
}
