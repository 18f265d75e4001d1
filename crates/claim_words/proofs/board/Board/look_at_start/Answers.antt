use Rattle.std.proofs.Common.{rules, arith}
use Rattle.claim_words.specs.Passes.{opening_of}
use Rattle.claim_words.proofs.StartIsCounted.{tells_start}
use Rattle.claim_words.proofs.board.Board.look_at_start.Goals as goal

pub load-requires : goal.load-requires
load-requires c = (
  search rules,
  omega (arith, c.args.self.now.sized),
  tells_start (opening_of c.args.self.now) _ _ _ _ c.requires.pass.0.1,
)
