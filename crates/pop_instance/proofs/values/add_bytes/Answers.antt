use Rattle.std.proofs.Common.{rules, ◌<◌, length, ◌∙◌, arith}
use Rattle.pop_instance.proofs.FirstValuesLemmas.{first_more}
use Rattle.pop_instance.proofs.values.add_bytes.Goals as goal

pub loop-v-preserved : goal.loop-v-preserved
loop-v-preserved c =
    let s = c.args.stacks.now in
    let at = c.args.cursors.now in
    let below : c.loop-v.v < length at = omega (arith, c.requires.count, c.requires.most, c.loop-v-test.true) in
    let more = first_more s at c.loop-v.bytes.items c.push.new.self.items c.entry.result c.loop-v.v below
    c.loop-v.invariant.count c.loop-v.invariant.first c.in_ok-push.ensures.items (search rules) c.entry.ensures.within in
    record {
      first = more.0;
      count = more.1;
      reader = c.entry.ensures.same ∙ c.loop-v.invariant.reader;
    }
