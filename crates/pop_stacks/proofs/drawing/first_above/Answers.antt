use Rattle.std.proofs.Common.{◌+◌, ◌-◌, ◌/◌, ◌≤◌, get_or, arith}
use Rattle.pop_stacks.proofs.DrawsLemmas.{rises_between}
use Rattle.pop_stacks.proofs.drawing.first_above.Goals as goal

pub loop-low-preserved-then-sums-middle : goal.loop-low-preserved-then-sums-middle
loop-low-preserved-then-sums-middle c =
    let low = c.loop-low.low in
    let high = c.loop-low.high in
    let sums = c.args.sums.now in
    let middle = low + (high - low) / 2 in
    let here : get_or sums middle 0 ≤ c.args.m = c.if-sums-middle.true in
    record {
      ordered = omega arith;
      within = c.loop-low.invariant.within;
      above = c.loop-low.invariant.above;
      below = λ k less.
          omega (arith, rises_between 0 sums k middle c.requires.rising (omega arith) (omega arith), here);
    }
