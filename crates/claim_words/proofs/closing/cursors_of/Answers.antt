use Rattle.std.proofs.Common.{rules, arith, ℕ, ap, sym, ◌∙◌, ◌≡◌, List, get_or}
use mathlib.Core.Logic.{dite}
use native.Mathlib.Decide.{ℕ_discrete}
use Rattle.std.specs.Slots.{slots_items}
use Rattle.claim_words.specs.Words.{word_of, cursor_in}
use Rattle.claim_words.proofs.SoleHasAll.{at_least, last_of, before_last}
use Rattle.claim_words.proofs.closing.cursors_of.Goals as goal

pub loop-v-preserved : goal.loop-v-preserved
loop-v-preserved c =
    let i = c.loop-v.invariant in
    let old = c.loop-v.cursors.items in
    let to = c.push_reserved.ensures.items in
    let ws = slots_items c.args.words.now.words in
    let word : get_or ws (word_of c.loop-v.v) 0 ≡ c.word-found.result =
    ap (λ (j : ℕ). get_or ws j 0) (sym c.word_of.ensures)
    ∙ at_least ws c.word_of.result c.word-found.result c.word-found.ensures in
    record {
      len = search rules;
      room = search rules;
      each = λ u h. dite (ℕ_discrete u c.loop-v.v)
          (λ is.
          ap (λ (l : List ℕ). get_or l u 0) to ∙ last_of old _ u (is ∙ sym i.len) ∙ c.cursor_of.ensures
          ∙ ap cursor_in (sym word) ∙ ap (λ (x : ℕ). cursor_in (get_or ws (word_of x) 0)) (sym is))
          (λ ne.
          ap (λ (l : List ℕ). get_or l u 0) to ∙ before_last old _ u (omega (arith, i.len)) ∙ i.each u (omega arith));
    }
