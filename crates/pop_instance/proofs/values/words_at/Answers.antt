use Rattle.std.proofs.Common.{rules, ◌<◌, ◌≤◌, length, ap, ◌∙◌, arith, ◌++◌, ◌∷◌, []}
use Rattle.std.proofs.lemmas.List.{take_all}
use Rattle.pop_model.specs.Popping.{values_at}
use Rattle.pop_model.proofs.ValuesLemmas.{length-values_at, values_more, values_below}
use Rattle.pop_instance.proofs.values.words_at.Goals as goal

pub loop-v-preserved : goal.loop-v-preserved
loop-v-preserved c =
    let s = c.args.stacks.now in
    let at = c.args.cursors.now in
    let below : c.loop-v.v < length at =
    omega (arith, c.requires.count, c.count-count.ensures.count, c.loop-v-test.true) in
    record {
      values = c.in_ok-push.ensures.items ∙ ap (λ xs. xs ++ c.entry.result ∷ []) c.loop-v.invariant.values
          ∙ values_more s at c.loop-v.v c.entry.result below (search rules);
      within = values_below s at c.loop-v.v c.loop-v.words.items c.push.new.self.items c.entry.result
          below c.loop-v.invariant.values c.in_ok-push.ensures.items c.loop-v.invariant.within c.entry.ensures.within;
      reader = c.entry.ensures.same ∙ c.loop-v.invariant.reader;
    }

pub returns-clause-values : goal.returns-clause-values
returns-clause-values c =
    let xs = values_at c.args.stacks.now c.args.cursors.now in
    let size = length-values_at c.args.stacks.now c.args.cursors.now in
    let all : length xs ≤ c.loop-v.v =
    omega (arith, size, c.requires.count, c.count-count.ensures.count, c.loop-v-test.false) in
    record {
      are = c.loop-v.invariant.values ∙ take_all c.loop-v.v xs all;
      within = λ v below.
          c.loop-v.invariant.within v (omega (arith, below, c.count-count.ensures.count, c.loop-v-test.false));
    }
