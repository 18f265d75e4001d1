use Rattle.std.proofs.Common.{◌/◌, ◌%◌, ◌+◌, ◌*◌, ◌∙◌, arith, ap, refl, subst}
use Rattle.rand_chacha.specs.ChaCha.{word_at}
use Rattle.pop_stacks.specs.Words.{AreWordsOf}
use Rattle.pop_stacks.specs.KeptValues.{AreValuesOf}
use Rattle.pop_stacks.proofs.KeyedEntries.{keyed_value, group_values}
use Rattle.pop_stacks.proofs.KeptLemmas.{group_entry, place_in_group, keeps_replaced}
use Rattle.pop_stacks.proofs.stacks.Stacks.value.Goals as goal
use Rattle.pop_stacks.proofs.stacks.Stacks.value.Goals.{After-keep}

-- the values of the group are drawn
drawn : (c : After-keep) → AreValuesOf c.args.self.now c.args.v (4 * (c.args.k / 32) + 4) c.draw_many-values.result
drawn c =
    group_values c.args.self.now c.self.inside.spec c.in-Key.field-0 c.args.stream.now c.self.inside.sample c.self.inside.height
    c.self.inside.sums c.args.v (c.args.k / 32) c.read.new.words c.draw_many-values.result
    c.in-Key.is c.self.view_is c.requires.streams (omega arith)
    (subst (λ n. AreWordsOf c.args.stream.now n (c.args.k / 32) c.read.new.words) c.stream_number.ensures c.read.ensures.words)
    c.draw_many-values.ensures

pub keep-requires : goal.keep-requires
keep-requires c = record {
  known = c.if-can_keep.ensures.0 refl;
  below = λ i within. omega (arith, (c.draw_many-values.ensures i within).1, c.slots-domain.ensures);
  places = λ k i at. (group_entry (c.args.k / 32) k i at).1;
}

pub returns-then-can_keep-clause-value : goal.returns-then-can_keep-clause-value
returns-then-can_keep-clause-value c =
    (drawn c c.args.k (c.args.k % 32) (place_in_group c.args.k)).0

pub returns-then-can_keep-clause-kept : goal.returns-then-can_keep-clause-kept
returns-then-can_keep-clause-kept c =
    keeps_replaced c.args.self.now c.args.kept.now c.keep.new.self c.args.v (4 * (c.args.k / 32) + 4)
    c.draw_many-values.result c.requires.kept c.keep.ensures.replaced (drawn c)

pub returns-else-can_keep-clause-value : goal.returns-else-can_keep-clause-value
returns-else-can_keep-clause-value c =
    keyed_value c.args.self.now c.self.inside.spec c.in-Key.field-0 c.args.stream.now c.self.inside.sample c.self.inside.height
    c.self.inside.sums c.args.v c.args.k c.words-low.result.0 c.words-low.result.1 c.draw.result
    c.in-Key.is c.self.view_is c.requires.streams
    (c.words-low.ensures.low ∙ ap (λ n. word_at 10 c.args.stream.now n (2 * c.args.k)) c.stream_number-in-Key.ensures)
    (c.words-low.ensures.high ∙ ap (λ n. word_at 10 c.args.stream.now n (2 * c.args.k + 1)) c.stream_number-in-Key.ensures)
    c.draw.ensures.value
