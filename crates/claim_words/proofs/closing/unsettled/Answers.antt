use Rattle.std.proofs.Common.{rules, ℕ, ap, sym, ◌∙◌, ◌≡◌, get_or, not}
use Rattle.std.specs.Slots.{slots_items}
use Rattle.claim_words.specs.Words.{word_of, is_settled}
use Rattle.claim_words.proofs.SoleHasAll.{at_least}
use Rattle.claim_words.proofs.SuspectsMissNone.{passing_more}
use Rattle.claim_words.proofs.closing.unsettled.Goals as goal

pub loop-v-preserved : goal.loop-v-preserved
loop-v-preserved c =
    let i = c.loop-v.invariant in
    let ws = slots_items c.args.words.now.words in
    let w = c.word-word.result in
    let word : get_or ws (word_of c.loop-v.v) 0 ≡ w =
    ap (λ (j : ℕ). get_or ws j 0) (sym c.word_of.ensures) ∙ at_least ws c.word_of.result w c.word-word.ensures in
    record {
      len = search rules;
      room = search rules;
      are = passing_more (λ v. not (is_settled (get_or ws (word_of v) 0))) c.loop-v.unset.items _ c.loop-v.v _ i.are
          (ap not (c.is_settled.ensures ∙ ap is_settled (sym word))) c.note.ensures.items;
    }
