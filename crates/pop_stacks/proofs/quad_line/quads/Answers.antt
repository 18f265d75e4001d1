use Rattle.std.proofs.Common.{◌+◌, ◌-◌, ◌≡◌, ap, slice_index, arith}
use Rattle.pop_stacks.proofs.QuadLemmas.{room_for, one_packed}
use Rattle.pop_stacks.proofs.quad_line.quads.Goals as goal

pub overflow_mul-bits : goal.overflow_mul-bits
overflow_mul-bits g c =
    let room = room_for c.loop-i.i c.loop-i.bits _ c.loop-i-test.true c.loop-i.invariant in omega (arith, room)

pub overflow_add-bits-in-loop-i : goal.overflow_add-bits-in-loop-i
overflow_add-bits-in-loop-i g c =
    let few = c.loop-i-test.true in
    let room = room_for c.loop-i.i c.loop-i.bits _ few c.loop-i.invariant in
    let place = c.requires.place in
    let small = c.requires.below (c.args.at + 7 - c.loop-i.i) (omega (arith, few, place)) in
    omega (arith, room, small)

pub loop-i-preserved : goal.loop-i-preserved
loop-i-preserved g c =
    let few = c.loop-i-test.true in
    let place = c.requires.place in
    let at : c.args.at + 7 - c.loop-i.i ≡ c.args.at + (7 - c.loop-i.i) = omega (arith, few) in
    one_packed c.loop-i.i c.loop-i.bits (slice_index c.args.values.now (c.args.at + 7 - c.loop-i.i))
    (λ j. slice_index c.args.values.now (c.args.at + j)) few
    (c.requires.below (c.args.at + 7 - c.loop-i.i) (omega (arith, few, place)))
    (ap (slice_index c.args.values.now) at) c.loop-i.invariant
