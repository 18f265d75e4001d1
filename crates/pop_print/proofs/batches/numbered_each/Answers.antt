use Rattle.std.proofs.Common.{◌<◌, ◌-◌, ◌∙◌, length, arith}
use Rattle.rayon.specs.Numbers.{nat_range}
use Rattle.rayon.proofs.ToStd.{nat_range-All}
use Rattle.pop_print.specs.Batches.{IsOfPlace}
use Rattle.pop_print.proofs.Stretches.{made_each}
use Rattle.pop_print.proofs.batches.numbered_each.Goals as goal

pub collect-requires-clause-ready : goal.collect-requires-clause-ready
collect-requires-clause-ready g c κs within =
    let ends = c.into_par_iter.ensures in
    let inside = nat_range-All (λ j. j < length c.args.ends.now) c.args.from c.args.to
    (λ j low high. omega (arith, high, c.requires.known)) in
    rw (c.map.ensures.base, c.with_min_len.ensures.base, c.map.ensures.f, ends.0, ends.1)
    (λ k d lt. ((c.requires.facts, c.requires.ends, inside k d lt), λ y p. tt))

pub returns : goal.returns
returns g c =
    let done = c.in_ok-collect.ensures in
    let ends = c.into_par_iter.ensures in
    let chain = rw (c.map.ensures.base, c.with_min_len.ensures.base, c.map.ensures.f) at done.1 in
    let numbers = chain.1 ∙ (λ i. nat_range (ends.0 i) (ends.1 i)) in
    made_each (λ j text. IsOfPlace c.args.facts.now c.args.instance.now c.args.ends.now j text) c.args.from
    (c.args.to - c.args.from) chain.0 done.0 c.in_ok-collect.field-0 numbers chain.2 done.2
