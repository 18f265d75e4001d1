use Rattle.std.proofs.Common.{arith}
use Rattle.claim_words.specs.Passes.{opening_of}
use Rattle.claim_words.proofs.SettleKeepsRule.{settles}
use Rattle.claim_words.proofs.board.Board.settle_step.Goals as goal

pub fetch_or-requires : goal.fetch_or-requires
fetch_or-requires c = (
  c.requires.seat.0,
  omega (arith, c.word_of.ensures, c.requires.known, c.args.self.now.sized, c.args.self.now.counted),
  settles (opening_of c.args.self.now) _ _ _ _ c.args.v c.word_of.ensures c.requires.known c.requires.seat.1
      c.requires.held c.requires.clear c.requires.cycles c.requires.may,
)
