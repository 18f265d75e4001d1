use Rattle.std.proofs.Common.{arith, ℕ, ap, ◌∙◌, ◌≡◌}
use Rattle.std.specs.Slots.{slots_items}
use Rattle.claim_words.specs.Openings.{count, marks}
use Rattle.claim_words.specs.Passes.{opening_of, view}
use Rattle.claim_words.specs.Closing.{set_marks, unsettled, suspects_in}
use Rattle.claim_words.proofs.SoleHasAll.{closes}
use Rattle.claim_words.proofs.SuspectsMissNone.{leaves}
use Rattle.claim_words.proofs.board.Board.close.Goals as goal

pub returns-clause-closed : goal.returns-clause-closed
returns-clause-closed c =
    let k = opening_of c.args.self in
    let counted = c.args.self.counted in
    let final = c.close_with-words.ensures.values.2 in
    closes k _ (view c.args.pass) _ _ c.cursors_of-cursors.result c.word-pops.result final c.requires.sole
    c.requires.idle.0 c.word-pops.ensures (c.cursors_of-cursors.ensures.count ∙ counted)
    (λ v h. c.cursors_of-cursors.ensures.cursors v (omega (arith, h, counted)))

pub returns-clause-left : goal.returns-clause-left
returns-clause-left c =
    let k = opening_of c.args.self in
    let counted = c.args.self.counted in
    let ws = slots_items c.close_with-words.result.words in
    let final = c.close_with-words.ensures.values.2 in
    let marked = c.set_marks-marked.result.items in
    let unset = c.unsettled-unset.result.items in
    let sets : marked ≡ set_marks ws (count k) (marks k) =
    c.set_marks-marked.ensures ∙ ap (λ (n : ℕ). set_marks ws n c.args.self.marks) counted
    ∙ ap (set_marks ws (count k)) c.args.self.marked in
    let opens : unset ≡ unsettled ws (count k) = c.unsettled-unset.ensures ∙ ap (unsettled ws) counted in
    let suspects : c.suspects_from.result ≡ suspects_in k ws =
    cc (c.suspects_from.ensures, c.args.self.family, sets, opens) in
    leaves k _ (view c.args.pass) ws _ c.cursors_of-cursors.result c.suspects_from.result final c.requires.sole
    c.requires.idle (λ v h. c.cursors_of-cursors.ensures.cursors v (omega (arith, h, counted))) suspects

pub returns-clause-count : goal.returns-clause-count
returns-clause-count c = c.cursors_of-cursors.ensures.count ∙ c.args.self.counted
