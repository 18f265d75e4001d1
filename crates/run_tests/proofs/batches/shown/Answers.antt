use Rattle.std.proofs.Common.{length, ap, arith}
use Rattle.pop_model.proofs.ValuesLemmas.{length-values_at}
use Rattle.run_tests.proofs.batches.shown.Goals as goal

pub get-requires-2 : goal.get-requires-2
get-requires-2 c =
    let over = c.requires.over in
    let size = ap length over.values.are in
    let same = length-values_at c.args.stacks.now c.args.end.now.cursors in
    record { known = omega (arith, c.requires.variable, over.count, size, same) }
