use Rattle.std.proofs.Common.{◌<◌, ap, arith}
use Rattle.pop_model.specs.Stacks.{variables_of}
use Rattle.witness_trees.proofs.Counting.{legal_log_counts}
use Rattle.log_tests.proofs.pops.place.Goals as goal

pub find_pop-place-requires : goal.find_pop-place-requires
find_pop-place-requires g c =
    let i = c.args.instance.now in
    let stacks = ap variables_of c.stacks.ensures in
    let below : c.args.v < variables_of i.stacks = omega (arith, stacks, c.count.ensures.count) in
    legal_log_counts i c.log_of_run-log.result c.log_of_run-log.ensures c.args.v below
