use Rattle.std.proofs.Common.{◌∙◌, ℕ, ◌/◌, ◌+◌, List, length, sym, ap, subst, arith}
use Rattle.array_calls.specs.Draws.{less}
use Rattle.std.specs.Prelude.{Option}
use Rattle.pop_batch.specs.Parts.{CanStart}
use Rattle.array_calls.specs.RowSamples.{ends_of, instance_of, stops_of}
use Rattle.array_calls.specs.Values.{value_arrays}
use Rattle.array_calls.proofs.Budgets.{can_start_at, not_so, stop_limited}
use Rattle.array_calls.proofs.RowParts.{end_over, stop_over}
use Rattle.array_calls.proofs.TreeRows.{row_fits, wanted_fits}
use Rattle.array_calls.proofs.ValueRows.{ValuesStand, have_values, values_end, values_more, values_none, values_stop}
use Rattle.array_calls.proofs.value_rows.put_value_samples.Goals as goal

pub loop-j-init : goal.loop-j-init
loop-j-init c =
    let a = c.args in
    values_none (ends_of a.samples.now) a.count a.first a.from.now a.budget (length a.counts.now / 2) a.values.now a.useds.now
    a.counts.now (omega (arith, c.ranges.budget)) c.requires.values c.requires.useds

pub run_part-requires-clause-start : goal.run_part-requires-clause-start
run_part-requires-clause-start c =
    let i = instance_of c.args.samples.now in
    subst (CanStart i) (sym c.in_ok-start.ensures) (can_start_at i c.args.from.now c.loop-j.j c.requires.start)

pub put_value_stop-requires-clause-cursors : goal.put_value_stop-requires-clause-cursors
put_value_stop-requires-clause-cursors c =
    let stop = c.in_ok-part.ensures.stopped c.if-part.true in
    let j = c.args.first + c.loop-j.j in
    let over = stop_over c.args.samples.now j c.in_ok-start.start c.in_ok-part.part.at stop.0 in
    let has = have_values (instance_of c.args.samples.now) c.args.count j c.in_ok-part.part.at c.requires.pairs over in
    omega (arith, has.0)

pub put_value_stop-requires-clause-useds : goal.put_value_stop-requires-clause-useds
put_value_stop-requires-clause-useds c =
    let stop = c.in_ok-part.ensures.stopped c.if-part.true in
    let limited = stop_limited c.args.budget c.loop-j.left c.loop-j.j c.in_ok-part.part.at.pops c.loop-j.counts stop.1
    c.in_ok-part.ensures.few c.loop-j.invariant.remains in
    row_fits c.loop-j.j (length c.args.counts.now / 2) c.args.count c.loop-j.useds (omega (arith, c.loop-j-test.true))
    (c.loop-j.invariant.useds_stay.size ∙ c.requires.stops limited)

pub returns-then-part-clause-leaves : goal.returns-then-part-clause-leaves
returns-then-part-clause-leaves c =
    let a = c.args in
    let part = c.in_ok-part.part in
    let stop = c.in_ok-part.ensures.stopped c.if-part.true in
    let of = subst (λ (f : Option (List ℕ)). stops_of a.samples.now (a.first + c.loop-j.j) f part.at)
    c.in_ok-start.ensures stop.0 in
    values_stop (ends_of a.samples.now) (stops_of a.samples.now) a.count a.first a.from.now a.budget (length a.counts.now / 2) c.loop-j.j c.loop-j.left
    part.at (value_arrays a.values.now a.useds.now a.counts.now) c.loop-j.values c.loop-j.useds c.loop-j.counts
    c.put_value_stop.new.useds c.put_value_stop.new.counts (omega (arith, c.loop-j-test.true)) of stop.1
    c.in_ok-part.ensures.few (omega (arith, c.loop-j-test.true, c.loop-j.invariant.counts_stay.size))
    c.put_value_stop.ensures.useds c.put_value_stop.ensures.counts c.loop-j.invariant

pub put_value_end-requires-clause-count : goal.put_value_end-requires-clause-count
put_value_end-requires-clause-count c =
    let samples = c.args.samples.now in
    let j = c.args.first + c.loop-j.j in
    let end = c.in_ok-part.ensures.ended (not_so c.in_ok-part.part.is_open c.if-part.false) in
    let has = have_values (instance_of samples) c.args.count j c.in_ok-part.part.at c.requires.pairs
    (end_over samples j c.in_ok-start.start c.in_ok-part.part.at end) in omega (arith, has.1)

pub put_value_end-requires-clause-cursors : goal.put_value_end-requires-clause-cursors
put_value_end-requires-clause-cursors c =
    let samples = c.args.samples.now in
    let j = c.args.first + c.loop-j.j in
    let end = c.in_ok-part.ensures.ended (not_so c.in_ok-part.part.is_open c.if-part.false) in
    let has = have_values (instance_of samples) c.args.count j c.in_ok-part.part.at c.requires.pairs
    (end_over samples j c.in_ok-start.start c.in_ok-part.part.at end) in omega (arith, has.0)

pub put_value_end-requires-clause-small : goal.put_value_end-requires-clause-small
put_value_end-requires-clause-small c =
    let samples = c.args.samples.now in
    let j = c.args.first + c.loop-j.j in
    let end = c.in_ok-part.ensures.ended (not_so c.in_ok-part.part.is_open c.if-part.false) in
    let has = have_values (instance_of samples) c.args.count j c.in_ok-part.part.at c.requires.pairs
    (end_over samples j c.in_ok-start.start c.in_ok-part.part.at end) in λ v below. omega (arith, has.2 v below)

pub put_value_end-requires-clause-values : goal.put_value_end-requires-clause-values
put_value_end-requires-clause-values c =
    row_fits c.loop-j.j (length c.args.counts.now / 2) c.args.count c.loop-j.values (omega (arith, c.loop-j-test.true))
    c.loop-j.invariant.values_size

pub put_value_end-requires-clause-useds : goal.put_value_end-requires-clause-useds
put_value_end-requires-clause-useds c =
    wanted_fits c.loop-j.j (length c.args.counts.now / 2) c.args.count c.loop-j.useds (omega (arith, c.loop-j-test.true))
    c.loop-j.invariant.useds_fit

pub loop-j-preserved : goal.loop-j-preserved
loop-j-preserved c =
    let a = c.args in
    let part = c.in_ok-part.part in
    let end = c.in_ok-part.ensures.ended (not_so c.in_ok-part.part.is_open c.if-part.false) in
    let of = subst (λ (f : Option (List ℕ)). ends_of a.samples.now (a.first + c.loop-j.j) f part.at)
    c.in_ok-start.ensures end in
    subst (λ n. ValuesStand (ends_of a.samples.now) a.count a.first a.from.now a.budget (length a.counts.now / 2)
    (c.loop-j.j + 1) n (value_arrays a.values.now a.useds.now a.counts.now) c.put_value_end.new.values
    c.put_value_end.new.useds c.put_value_end.new.counts) (sym (c.less-left.ensures ∙ ap (less c.loop-j.left) c.pops.ensures))
    (values_more (ends_of a.samples.now) a.count a.first a.from.now a.budget (length a.counts.now / 2) c.loop-j.j c.loop-j.left
    part.at (value_arrays a.values.now a.useds.now a.counts.now) c.loop-j.values c.loop-j.useds c.loop-j.counts
    c.put_value_end.new.values c.put_value_end.new.useds c.put_value_end.new.counts of c.in_ok-part.ensures.most
    (omega (arith, c.loop-j-test.true, c.loop-j.invariant.counts_stay.size)) c.put_value_end.ensures.values
    c.put_value_end.ensures.useds c.put_value_end.ensures.counts c.loop-j.invariant)

pub returns-clause-leaves : goal.returns-clause-leaves
returns-clause-leaves c =
    let a = c.args in
    values_end (ends_of a.samples.now) a.count a.first a.from.now a.budget (length a.counts.now / 2) c.loop-j.j c.loop-j.left
    (value_arrays a.values.now a.useds.now a.counts.now) c.loop-j.values c.loop-j.useds c.loop-j.counts
    (omega (arith, c.loop-j-test.false, c.loop-j.auto.j-end)) c.loop-j.invariant
