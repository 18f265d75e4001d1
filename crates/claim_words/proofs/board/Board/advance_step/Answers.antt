use Rattle.std.proofs.Common.{arith}
use Rattle.claim_words.specs.Passes.{opening_of}
use Rattle.claim_words.proofs.AdvanceKeepsRule.{advances}
use Rattle.claim_words.proofs.board.Board.advance_step.Goals as goal

pub fetch_add-requires : goal.fetch_add-requires
fetch_add-requires c = (
  c.requires.seat.0,
  omega (arith, c.word_of.ensures, c.requires.known, c.args.self.now.sized, c.args.self.now.counted),
  advances (opening_of c.args.self.now) _ _ _ _ c.args.v c.word_of.ensures c.requires.known c.requires.seat.1
      c.requires.due,
)
