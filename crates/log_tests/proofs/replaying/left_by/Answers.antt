use Rattle.std.proofs.Common.{◌≡◌, length, sym, ap, subst, ◌∙◌, arith}
use Rattle.pop_model.specs.Stacks.{variables_of}
use Rattle.pop_model.specs.Instances.{Instance}
use Rattle.pop_model.specs.Runs.{start_of}
use Rattle.pop_log.specs.Replays.{IsReplay}
use Rattle.pop_model.proofs.Replays.{length-replay, start_count}
use Rattle.log_tests.proofs.replaying.left_by.Goals as goal

pub get-requires : goal.get-requires
get-requires g c =
    let i : Instance = c.args.instance.now in
    let log = c.args.log.now in
    let known = rw c.expect-end.ensures at c.replay.ensures in
    let legal = subst (IsReplay i log) c.in-Legal.is known in
    let size : length c.in-Legal.cursors ≡ variables_of i.stacks =
    ap length legal.1 ∙ length-replay (start_of i) log ∙ sym (start_count i) in
    let count = ap variables_of c.stacks.ensures in
    record { known = omega (arith, size, count) }
