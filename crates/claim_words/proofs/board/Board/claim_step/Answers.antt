use Rattle.std.proofs.Common.{arith, ℕ, subst, ◌≡◌}
use Rattle.claim_words.specs.Words.{variable_at}
use Rattle.claim_words.specs.Tells.{ClaimTells}
use Rattle.claim_words.specs.Passes.{opening_of}
use Rattle.claim_words.proofs.ClaimKeepsRule.{claims}
use Rattle.claim_words.proofs.board.Board.claim_step.Goals as goal

pub fetch_or-requires : goal.fetch_or-requires
fetch_or-requires c = (
  c.requires.seat.0,
  omega (arith, c.word_of.ensures, c.requires.known, c.args.self.now.sized, c.args.self.now.counted),
  claims (opening_of c.args.self.now) _ _ _ _ c.args.v c.word_of.ensures c.requires.known c.requires.seat.1
      c.requires.clear,
)

pub returns-clause-tells : goal.returns-clause-tells
returns-clause-tells c =
    let is : variable_at c.word_of.result ≡ c.args.v = omega (arith, c.word_of.ensures) in
    subst (λ (u : ℕ). ClaimTells c.args.seat.now.me.0 u c.fetch_or.result c.fetch_or.new.seat.me.0) is
    c.fetch_or.ensures.2.0
