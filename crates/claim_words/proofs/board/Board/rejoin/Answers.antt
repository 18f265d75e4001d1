use Rattle.std.proofs.Common.{rules, arith}
use Rattle.std.proofs.lemmas.List.{nil_from_length}
use Rattle.claim_words.specs.Passes.{opening_of}
use Rattle.claim_words.proofs.SplitKeepsRule.{joins, refutes}
use Rattle.claim_words.proofs.board.Board.rejoin.Goals as goal

pub join_seat-requires : goal.join_seat-requires
join_seat-requires c = (
  c.requires.pass.0.0,
  c.requires.other.0.0,
  nil_from_length _ c.args.other.slotless,
  omega (arith, c.args.self.now.sized),
  joins (opening_of c.args.self.now) _ _ _ _ c.requires.pass.0.1 c.requires.idle.0
      (c.requires.idle.1, c.requires.idle.2),
)

pub load-requires : goal.load-requires
load-requires c =
    (search rules, omega (arith, c.args.self.now.sized), refutes (opening_of c.args.self.now) _ _ _ _)
