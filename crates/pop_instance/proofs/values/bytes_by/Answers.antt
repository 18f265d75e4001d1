use Rattle.std.proofs.Common.{◌∙◌}
use Rattle.pop_instance.proofs.FirstValuesLemmas.{first_all}
use Rattle.pop_instance.proofs.values.bytes_by.Goals as goal

pub returns : goal.returns
returns c = record {
  values = first_all c.args.stacks.now c.args.cursors.now c.add_bytes-2.new.bytes.items c.requires.count
      c.in_ok-add_bytes-2.ensures.first (c.in_ok-add_bytes-2.ensures.count ∙ c.count-count.ensures.count);
}
