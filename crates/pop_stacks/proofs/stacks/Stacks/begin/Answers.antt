-- The words that are read are those of four streams, so the values that are kept of a variable are of
-- its own block, and the entry that is drawn is one of them.
use Rattle.std.proofs.Common.{◌≡◌, ◌-◌, ◌/◌, ◌%◌, ◌∙◌, refl, sym, subst, arith}
use Rattle.pop_model.specs.Stacks.{stream_of}
use Rattle.pop_stacks.specs.Words.{AreBlockWords}
use Rattle.pop_stacks.specs.KeptValues.{KeepsValues, keeps}
use Rattle.pop_stacks.proofs.KeyedEntries.{block_value, block_values}
use Rattle.pop_stacks.proofs.KeptLemmas.{keeps_appended}
use Rattle.pop_stacks.proofs.stacks.Stacks.begin.Goals as goal
use Rattle.pop_stacks.proofs.stacks.Stacks.begin.Goals.{then-awaits, else-awaits}

pub append-requires : goal.append-requires
append-requires c = record {
  known = (c.if-awaits.ensures.0 refl).room;
  next = (c.if-awaits.ensures.0 refl).next;
  below = λ i within. omega (arith, (c.draw_many-values.ensures i within).1, c.slots-domain.ensures);
  small = omega (arith, c.requires.short);
}

pub loop-u-preserved : goal.loop-u-preserved
loop-u-preserved c =
    let first = c.args.v - c.args.v % 4 in
    let block = c.args.k / 8 in
    let u = c.loop-u.u in
    let s = c.args.self.now in
    let read : AreBlockWords c.args.stream.now (stream_of c.self.inside.sample first) block c.read_block.new.words =
    subst (λ n. AreBlockWords c.args.stream.now n block c.read_block.new.words) c.stream_number.ensures c.read_block.ensures in
    elim c.if-awaits.branch [
      | then-awaits w ↦
          subst (λ kept. KeepsValues s kept × (keeps kept ≡ keeps c.args.kept.now)) (sym w.kept-is) (
            keeps_appended s c.loop-u.kept w.append.new.self u block w.draw_many-values.result c.loop-u.invariant.0
                w.append.ensures.appended
                (block_values s c.self.inside.spec c.args.stream.now c.self.inside.sample c.self.inside.height
                c.self.inside.sums first block u c.read_block.new.words w.draw_many-values.result c.requires.keyed
                c.self.view_is c.requires.streams read (omega arith) (omega arith) w.draw_many-values.ensures),
            w.append.ensures.keeping ∙ c.loop-u.invariant.1,
          )
      | else-awaits w ↦
          subst (λ kept. KeepsValues s kept × (keeps kept ≡ keeps c.args.kept.now)) (sym w.kept-is) c.loop-u.invariant
    ]

pub returns-clause-value : goal.returns-clause-value
returns-clause-value c =
    let first = c.args.v - c.args.v % 4 in
    let block = c.args.k / 8 in
    let words = c.read_block.new.words in
    let read : AreBlockWords c.args.stream.now (stream_of c.self.inside.sample first) block words =
    subst (λ n. AreBlockWords c.args.stream.now n block words) c.stream_number.ensures c.read_block.ensures in
    block_value c.args.self.now c.self.inside.spec c.args.stream.now c.self.inside.sample c.self.inside.height
    c.self.inside.sums first block c.args.v c.args.k c.draw.result words c.requires.keyed
    c.self.view_is c.requires.streams read (omega arith) (omega arith) refl c.draw.ensures.value
