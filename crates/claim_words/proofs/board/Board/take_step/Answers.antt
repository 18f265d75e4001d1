use Rattle.std.proofs.Common.{arith, ℕ, ap, sym, subst, ◌∙◌, ◌≡◌}
use Rattle.claim_words.specs.Words.{mark_of}
use Rattle.claim_words.specs.Tells.{SoleTakes}
use Rattle.claim_words.specs.Passes.{opening_of, count_of}
use Rattle.claim_words.proofs.MarkKeepsRule.{takes, marked_unit}
use Rattle.claim_words.proofs.board.Board.take_step.Goals as goal

pub swap-requires : goal.swap-requires
swap-requires c =
    let u : ℕ = c.args.unit in
    let here : c.mark_of-at.result ≡ mark_of (count_of c.args.self.now) u =
    c.mark_of-at.ensures ∙ ap (λ (n : ℕ). mark_of n u) c.args.self.now.counted in (
      c.requires.seat.0,
      omega (arith, c.mark_of-at.ensures, c.args.self.now.sized, c.args.self.now.marked, c.requires.listed),
      takes (opening_of c.args.self.now) _ _ _ u c.requires.listed c.requires.seat.1 _ here,
    )

pub returns-clause-takes : goal.returns-clause-takes
returns-clause-takes c =
    let u : ℕ = c.args.unit in
    let d = c.args.seat.now.me.0 in
    let here : c.mark_of-at.result ≡ mark_of (count_of c.args.self.now) u =
    c.mark_of-at.ensures ∙ ap (λ (n : ℕ). mark_of n u) c.args.self.now.counted in
    let is = marked_unit (opening_of c.args.self.now) d u _ here c.requires.seat.1 in
    subst (λ (x : ℕ). SoleTakes d x c.swap.result) (sym is) c.swap.ensures.2.2
