use Rattle.std.proofs.Common.{length, ap, arith}
use Rattle.pop_model.proofs.ValuesLemmas.{length-values_at}
use Rattle.stack_tests.proofs.values.value_by.Goals as goal

pub get-value-requires : goal.get-value-requires
get-value-requires g c =
    let known = rw c.expect-values.ensures at c.at_by.ensures in
    let are = known.values.are in
    let same = ap length are in
    let size = length-values_at c.args.stacks.now c.args.cursors.now in
    record { known = omega (arith, same, size, c.requires.count, c.requires.variable) }
