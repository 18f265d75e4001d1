use Rattle.std.proofs.Common.{arith, ℕ, subst}
use Rattle.claim_words.specs.Maps.{In}
use Rattle.claim_words.specs.Conditions.{RulesOut}
use Rattle.claim_words.specs.Passes.{opening_of}
use Rattle.claim_words.proofs.MarkKeepsRule.{clears}
use Rattle.claim_words.proofs.board.Board.clear_step.Goals as goal

pub load-requires : goal.load-requires
load-requires g c =
    let k = opening_of c.args.self.now in
    let is = c.requires.unit in
    let d = c.args.seat.now.me.0 in (
      c.requires.seat.0,
      omega (arith, c.word_of.ensures, c.requires.known, c.args.self.now.sized, c.args.self.now.counted),
      clears k _ _ _ g.W.Cleared.unit _ c.args.v c.requires.seat.1
          (subst (λ (u : ℕ). In u d.taken) is c.requires.taken) c.requires.held c.requires.clear
          (subst (λ (u : ℕ). RulesOut k.instance.value d.held u c.args.v) is c.requires.out),
    )
