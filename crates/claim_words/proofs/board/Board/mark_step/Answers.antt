use Rattle.std.proofs.Common.{arith, ℕ, ap, ◌∙◌, ◌≡◌}
use Rattle.claim_words.specs.Words.{mark_of}
use Rattle.claim_words.specs.Passes.{opening_of, count_of}
use Rattle.claim_words.proofs.MarkKeepsRule.{marks_it}
use Rattle.claim_words.proofs.board.Board.mark_step.Goals as goal

pub fetch_or-requires : goal.fetch_or-requires
fetch_or-requires c =
    let u : ℕ = c.args.unit in
    let here : c.mark_of-at.result ≡ mark_of (count_of c.args.self.now) u =
    c.mark_of-at.ensures ∙ ap (λ (n : ℕ). mark_of n u) c.args.self.now.counted in (
      c.requires.seat.0,
      omega (arith, c.mark_of-at.ensures, c.args.self.now.sized, c.args.self.now.marked, c.requires.listed),
      marks_it (opening_of c.args.self.now) _ _ _ u c.requires.listed c.requires.seat.1 _ here,
    )
