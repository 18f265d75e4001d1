use Rattle.std.proofs.Common.{arith, ap, sym, ◌∙◌, ◌≡◌, ◌++◌, ◌∷◌, [], ℕ, List}
use Rattle.pop_model.specs.Popping.{variables}
use Rattle.claim_words.specs.Words.{cursor_in}
use Rattle.claim_words.specs.Maps.{many_from}
use Rattle.claim_words.specs.Openings.{count_in}
use Rattle.claim_words.specs.declared.view.View.{View}
use Rattle.claim_words.proofs.ClaimKeepsRule.{held_after}
use Rattle.claim_words.proofs.HeldLemmas.{variables-push, many-push}
use Rattle.claim_words.proofs.board.Board.try_claim.Goals as goal

pub invariant_of-pass-2-clause-tied : goal.invariant_of-pass-2-clause-tied
invariant_of-pass-2-clause-tied c =
    let w = c.claim_step-found.result in
    let d : View = c.args.pass.now.seat.me.0 in
    let more = held_after d _ c.args.v w c.claim_step-found.ensures.tells.view c.if-found-ge-CLAIMED.false in
    c.push_reserved.ensures.items ∙ ap (λ (l : List ℕ). l ++ c.args.v ∷ []) c.args.pass.now.tied
    ∙ sym (ap variables more ∙ variables-push d.held (c.args.v, cursor_in w))

pub invariant_of-pass-2-clause-near : goal.invariant_of-pass-2-clause-near
invariant_of-pass-2-clause-near c =
    let d : View = c.args.pass.now.seat.me.0 in
    let e : View = c.claim_step-found.new.seat.me.0 in
    let same : count_in e.opening ≡ count_in d.opening =
    ap (λ (x : View). count_in x.opening) c.claim_step-found.ensures.tells.view in
    let known : count_in d.opening ≡ _ = ap count_in c.requires.pass.0.1 in
    ap (λ (n : ℕ). many_from n c.push_reserved.new.self.items) same
    ∙ ap (many_from (count_in d.opening)) c.push_reserved.ensures.items
    ∙ many-push (count_in d.opening) c.args.v c.args.pass.now.held.items c.args.pass.now.near
    (omega (arith, known, c.requires.known))
