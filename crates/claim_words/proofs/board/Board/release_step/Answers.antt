use Rattle.std.proofs.Common.{arith}
use Rattle.claim_words.specs.Passes.{opening_of}
use Rattle.claim_words.proofs.ReleaseKeepsRule.{releases}
use Rattle.claim_words.proofs.board.Board.release_step.Goals as goal

pub fetch_and-requires : goal.fetch_and-requires
fetch_and-requires c = (
  c.requires.seat.0,
  omega (arith, c.word_of.ensures, c.requires.known, c.args.self.now.sized, c.args.self.now.counted),
  releases (opening_of c.args.self.now) _ _ _ _ c.args.v c.word_of.ensures c.requires.known c.requires.seat.1
      c.requires.held c.requires.clear,
)
