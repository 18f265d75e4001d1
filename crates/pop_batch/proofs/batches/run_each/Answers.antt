use Rattle.std.proofs.Common.{◌≡◌, ◌-◌, ◌∙◌, ap, arith}
use Rattle.std.specs.List.{range_with_len}
use Rattle.rayon.specs.Numbers.{nat_range}
use Rattle.pop_batch.proofs.Zipped.{batch_ends}
use Rattle.pop_batch.proofs.batches.run_each.Goals as goal

pub returns : goal.returns
returns g c =
    let done = c.in_ok-collect.ensures in
    let ends = c.into_par_iter.ensures in
    let whole : c.args.count - 0 ≡ c.args.count = omega arith in
    let chain = rw (c.map.ensures.base, c.with_min_len.ensures.base, c.map.ensures.f) at done.1 in
    let numbers = chain.1 ∙ (λ i. nat_range (ends.0 i) (ends.1 i)) ∙ ap (range_with_len 0) whole in
    batch_ends c.args.samples.now c.args.count chain.0 done.0 c.in_ok-collect.field-0 numbers chain.2 done.2
