use Rattle.std.proofs.Common.{arith}
use Rattle.claim_words.specs.Passes.{opening_of}
use Rattle.claim_words.proofs.SplitKeepsRule.{splits}
use Rattle.claim_words.proofs.board.Board.cut.Goals as goal

pub split_seat-requires : goal.split_seat-requires
split_seat-requires g c =
    let t = c.requires.share in (
      c.requires.seat.0,
      omega (arith, c.args.self.now.sized),
      splits (opening_of c.args.self.now) _ _ g.W.Portion.part c.requires.seat.1 (omega (arith, t.0, t.2))
          (omega (arith, t.1, t.2)),
    )
