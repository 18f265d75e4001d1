use Rattle.claim_words.proofs.PassHolds.{held_known}
use Rattle.claim_words.proofs.board.Board.clear.Goals as goal

pub clear_step-requires-clause-known : goal.clear_step-requires-clause-known
clear_step-requires-clause-known c =
    held_known c.args.self.now c.args.pass.now c.args.v c.requires.pass c.requires.held
