use Rattle.std.proofs.Common.{ap}
use Rattle.claim_words.specs.declared.view.View.{View}
use Rattle.claim_words.proofs.PassHolds.{held_once, held_known, tied_still, near_still}
use Rattle.claim_words.proofs.board.Board.settle.Goals as goal

pub settle_step-requires-clause-known : goal.settle_step-requires-clause-known
settle_step-requires-clause-known c =
    held_known c.args.self.now c.args.pass.now c.args.v c.requires.pass c.requires.held

pub let_go-requires : goal.let_go-requires
let_go-requires c = record { there = held_once c.args.pass.now c.args.v c.requires.held }

pub invariant_of-pass-clause-tied : goal.invariant_of-pass-clause-tied
invariant_of-pass-clause-tied c =
    tied_still c.args.pass.now c.args.v c.settle_step.new.seat.me.0.held _ c.let_go.ensures.items
    (ap (λ (x : View). x.held) c.settle_step.ensures.view)

pub invariant_of-pass-clause-near : goal.invariant_of-pass-clause-near
invariant_of-pass-clause-near c =
    near_still c.args.pass.now c.args.v c.settle_step.new.seat.me.0.opening _ c.let_go.ensures.items
    (ap (λ (x : View). x.opening) c.settle_step.ensures.view)
