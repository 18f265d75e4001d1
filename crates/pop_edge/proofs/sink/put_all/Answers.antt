use Rattle.std.proofs.Common.{arith}
use Rattle.pop_edge.proofs.Pieces.{appends_more}
use Rattle.pop_edge.proofs.sink.put_all.Goals as goal

pub loop-done-preserved : goal.loop-done-preserved
loop-done-preserved g c = let i = c.loop-done.invariant in let e =
    c.in_ok-count.ensures in
    record {
      within = omega arith;
      taken =
          appends_more _ _ _ c.args.bytes.now c.loop-done.done c.in_ok-count.count i.within i.taken e.bytes;
      faults =
          omega (arith, e.cause.later);
    }
