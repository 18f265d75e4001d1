use Rattle.std.proofs.Common.{◌≡◌, ◌+◌, [], arith, sym, subst}
use Rattle.std.specs.List.{AllZip, range_with_len}
use Rattle.pop_batch.specs.Batches.{AreEnds, IsSampleEnd}
use Rattle.pop_batch.proofs.Zipped.{ends_of, one_more}
use Rattle.pop_batch.proofs.batches.run_in_turn.Goals as goal

pub loop-j-init : goal.loop-j-init
loop-j-init c = subst (AllZip (IsSampleEnd c.args.samples.now) []) (sym c.in_ok-ends.ensures.items) tt

pub loop-j-preserved : goal.loop-j-preserved
loop-j-preserved c =
    let i = c.args.samples.now in
    subst (AllZip (IsSampleEnd i) (range_with_len 0 (c.loop-j.j + 1))) (sym c.in_ok-push.ensures.items)
    (one_more i c.loop-j.j (c.loop-j.j + 1) c.loop-j.ends.items c.in_ok-run.field-0 (omega arith) c.loop-j.invariant
    c.in_ok-run.ensures)

pub returns : goal.returns
returns c =
    let all : c.loop-j.j ≡ c.args.count = omega arith in
    subst (λ n. AreEnds c.args.samples.now n c.loop-j.ends.items) all
    (ends_of c.args.samples.now c.loop-j.j c.loop-j.ends.items c.loop-j.invariant)
