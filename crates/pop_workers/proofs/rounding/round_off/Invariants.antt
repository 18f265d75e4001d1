use Rattle.std.proofs.Common.{◌-◌, ◌^◌, ◌≡◌, length}
use Rattle.pop_model.specs.Instances.{IsInstance}
use Rattle.claim_words.specs.Passes.{view, count_of, opening_of}
use Rattle.pop_workers.specs.AtWork.{HasTools, KeepsTools, IsSoleOn}
use Rattle.pop_workers.proofs.rounding.round_off.Given as goal

-- how many pops a legal log may still have
abbrev pub decreases-loop : goal.decreases-loop
decreases-loop g l = 2 ^ 62 - length (view l.pass).mine

-- the pass stays sole and idle; the board started from a cursor for each variable
abbrev pub invariant-loop : goal.invariant-loop
invariant-loop g l = record {
  instance : IsInstance l.shared.instance.now;
  count : length (opening_of l.board).start.value ≡ count_of l.board;
  pass : IsSoleOn l.board l.pass;
  has : HasTools l.shared l.tools;
  keeps : KeepsTools l.shared.instance.now l.fn.tools l.tools;
}
