use Rattle.std.proofs.Common.{length, ap, arith}
use Rattle.pop_instance.specs.Events.{cube_at}
use Rattle.extremal_check.proofs.Trying.{NoneBelow, sharing_row, has_row, one_row_more, not_below_least}
use Rattle.extremal_check.proofs.least_clash.least_with.Goals as goal

pub least_in_row-least-requires-clause-sharing : goal.least_in_row-least-requires-clause-sharing
least_in_row-least-requires-clause-sharing c =
    let read = rw c.cube-cube.ensures at c.pair-v.ensures in
    let rows = c.args.events.now in
    let index = c.args.index.now in
    let below = has_row rows index c.args.i c.loop-k.k c.pair-v.result c.requires.index c.requires.within read in
    let holds = rw c.at.ensures at c.places_after-later.ensures.later in
    sharing_row rows index c.args.i c.loop-k.k c.pair-v.result c.places_after-later.result.now c.requires.index
    read below holds

pub loop-k-preserved : goal.loop-k-preserved
loop-k-preserved c =
    let read = rw c.cube-cube.ensures at c.pair-v.ensures in
    let holds = rw c.at.ensures at c.places_after-later.ensures.later in
    record {
      tried = c.least_in_row-least.ensures.tried;
      none_below = one_row_more c.args.events.now c.args.index.now c.args.i c.loop-k.k c.loop-k.least
          c.least_in_row-least.result c.pair-v.result
          read c.loop-k.invariant.none_below c.least_in_row-least.ensures.falls
          (λ j has clash. c.least_in_row-least.ensures.none_below j ((holds j).1 (has, clash.rising)) clash);
    }

pub returns-then-has_all_later-clause-tried : goal.returns-then-has_all_later-clause-tried
returns-then-has_all_later-clause-tried c = c.least_in_row-least.ensures.tried

pub returns-then-has_all_later-clause-none_below : goal.returns-then-has_all_later-clause-none_below
returns-then-has_all_later-clause-none_below c = λ j clash.
    let all = c.if-has_all_later.ensures in
    let within = clash.within in
    c.least_in_row-least.ensures.none_below j
    (all j clash.rising (omega (arith, within, c.count-count.ensures.count))) clash

pub returns-clause-none_below : goal.returns-clause-none_below
returns-clause-none_below c =
    let size = ap length c.cube-cube.ensures in
    let rows = c.args.events.now in
    let none : NoneBelow rows c.args.index.now c.args.i c.loop-k.least (length (cube_at rows c.args.i)) =
    λ k less. c.loop-k.invariant.none_below k (omega (arith, size, c.len-k-end.ensures.len)) in
    not_below_least rows c.args.index.now c.args.i c.loop-k.least c.requires.index c.requires.within none
