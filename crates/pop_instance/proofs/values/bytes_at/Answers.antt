use Rattle.std.proofs.Common.{◌∙◌}
use Rattle.pop_instance.proofs.FirstValuesLemmas.{first_all}
use Rattle.pop_instance.proofs.values.bytes_at.Goals as goal

pub returns-clause-values : goal.returns-clause-values
returns-clause-values c =
    first_all c.args.stacks.now c.args.cursors.now c.add_bytes.new.bytes.items c.requires.count
    c.in_ok-add_bytes.ensures.first (c.in_ok-add_bytes.ensures.count ∙ c.count-count.ensures.count)
