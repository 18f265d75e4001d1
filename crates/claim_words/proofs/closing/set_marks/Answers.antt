use Rattle.std.proofs.Common.{rules, ℕ, ap, sym, ◌∙◌, ◌≡◌, get_or, eqb}
use Rattle.std.specs.Slots.{slots_items}
use Rattle.claim_words.specs.Words.{mark_of}
use Rattle.claim_words.proofs.SoleHasAll.{at_least}
use Rattle.claim_words.proofs.SuspectsMissNone.{passing_more}
use Rattle.claim_words.proofs.closing.set_marks.Goals as goal

pub loop-unit-preserved : goal.loop-unit-preserved
loop-unit-preserved c =
    let m = c.loop-unit.invariant in
    let n = c.args.count in
    let ws = slots_items c.args.words.now.words in
    let w = c.word-word.result in
    let word : get_or ws (mark_of n c.loop-unit.unit) 0 ≡ w =
    ap (λ (j : ℕ). get_or ws j 0) (sym c.mark_of.ensures) ∙ at_least ws c.mark_of.result w c.word-word.ensures in
    record {
      len = search rules;
      room = search rules;
      are = passing_more (λ u. eqb (get_or ws (mark_of n u) 0) 1) c.loop-unit.marked.items _ c.loop-unit.unit _ m.are
          (ap (λ (x : ℕ). eqb x 1) (sym word)) c.note.ensures.items;
    }
