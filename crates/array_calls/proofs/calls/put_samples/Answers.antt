use Rattle.std.proofs.Common.{◌∙◌, ℕ, ◌/◌, ◌+◌, List, length, sym, subst, arith}
use Rattle.std.specs.Prelude.{Option}
use Rattle.pop_batch.specs.Parts.{CanStart, IsPartEnd, IsPartStop}
use Rattle.array_calls.specs.Trees.{tree_arrays}
use Rattle.array_calls.proofs.Budgets.{can_start_at, not_so, stop_limited}
use Rattle.array_calls.proofs.TreeParts.{have_cursors, have_slots, part_over}
use Rattle.array_calls.proofs.TreeRows.{RowsStand, edges_fit, row_fits, rows_end, rows_more, rows_none, rows_stop}
use Rattle.array_calls.proofs.calls.put_samples.Goals as goal

pub loop-j-init : goal.loop-j-init
loop-j-init c =
    let a = c.args in
    rows_none a.samples.now a.ends.now a.root a.first a.from.now a.budget (length a.counts.now / 2) a.parents.now
    a.edges.now a.useds.now a.counts.now (omega (arith, c.ranges.budget)) c.requires.rows

pub run_part-requires : goal.run_part-requires
run_part-requires c = record {
  start = subst (CanStart c.args.samples.now) (sym c.in_ok-start.ensures)
      (can_start_at c.args.samples.now c.args.from.now c.loop-j.j c.requires.start);
}

pub put_stop-requires-clause-cursors : goal.put_stop-requires-clause-cursors
put_stop-requires-clause-cursors c =
    let stop = c.in_ok-part.ensures.stopped c.if-part.true in
    have_cursors c.args.ends.now c.args.root c.args.samples.now (c.args.first + c.loop-j.j) c.in_ok-part.part.at
    c.requires.root c.requires.trees stop.0.over

pub put_stop-requires-clause-useds : goal.put_stop-requires-clause-useds
put_stop-requires-clause-useds c =
    let stop = c.in_ok-part.ensures.stopped c.if-part.true in
    let limited = stop_limited c.args.budget c.loop-j.left c.loop-j.j c.in_ok-part.part.at.pops c.loop-j.counts stop.1
    c.in_ok-part.ensures.few c.loop-j.invariant.remains in
    row_fits c.loop-j.j (length c.args.counts.now / 2) c.args.ends.now.vertices c.loop-j.useds
    (omega (arith, c.loop-j-test.true)) (c.loop-j.invariant.useds_stay.size ∙ c.requires.stops limited)

pub returns-then-part-clause-leaves : goal.returns-then-part-clause-leaves
returns-then-part-clause-leaves c =
    let a = c.args in
    let part = c.in_ok-part.part in
    let stop = c.in_ok-part.ensures.stopped c.if-part.true in
    let of = subst (λ (f : Option (List ℕ)). IsPartStop a.samples.now (a.first + c.loop-j.j) f part.at)
    c.in_ok-start.ensures stop.0 in
    rows_stop a.samples.now a.ends.now a.root a.first a.from.now a.budget (length a.counts.now / 2) c.loop-j.j
    c.loop-j.left part.at (tree_arrays a.parents.now a.edges.now a.useds.now a.counts.now) c.loop-j.parents
    c.loop-j.edges c.loop-j.useds c.loop-j.counts c.put_stop.new.useds c.put_stop.new.counts
    (omega (arith, c.loop-j-test.true)) of stop.1 c.in_ok-part.ensures.few
    (omega (arith, c.loop-j-test.true, c.loop-j.invariant.counts_stay.size)) c.put_stop.ensures.useds
    c.put_stop.ensures.counts c.loop-j.invariant

pub put_end-requires-clause-slots : goal.put_end-requires-clause-slots
put_end-requires-clause-slots c =
    let i = c.args.samples.now in
    let j = c.args.first + c.loop-j.j in
    let end = c.in_ok-part.ensures.ended (not_so c.in_ok-part.part.is_open c.if-part.false) in
    have_slots c.args.ends.now c.args.root i j c.in_ok-part.part.at c.requires.root c.requires.trees
    (part_over i j c.in_ok-start.start c.in_ok-part.part.at end)

pub put_end-requires-clause-cursors : goal.put_end-requires-clause-cursors
put_end-requires-clause-cursors c =
    let i = c.args.samples.now in
    let j = c.args.first + c.loop-j.j in
    let end = c.in_ok-part.ensures.ended (not_so c.in_ok-part.part.is_open c.if-part.false) in
    have_cursors c.args.ends.now c.args.root i j c.in_ok-part.part.at c.requires.root c.requires.trees
    (part_over i j c.in_ok-start.start c.in_ok-part.part.at end)

pub put_end-requires-clause-edges : goal.put_end-requires-clause-edges
put_end-requires-clause-edges c =
    edges_fit c.loop-j.j (length c.args.counts.now / 2) c.args.ends.now c.args.incidence.now c.args.edges.now
    c.loop-j.edges (omega (arith, c.loop-j-test.true)) c.loop-j.invariant.fit.edges_fit
    c.loop-j.invariant.edges_stay.size c.requires.wanted

pub loop-j-preserved : goal.loop-j-preserved
loop-j-preserved c =
    let a = c.args in
    let part = c.in_ok-part.part in
    let end = c.in_ok-part.ensures.ended (not_so c.in_ok-part.part.is_open c.if-part.false) in
    let of = subst (λ (f : Option (List ℕ)). IsPartEnd a.samples.now (a.first + c.loop-j.j) f part.at)
    c.in_ok-start.ensures end in
    subst (λ n. RowsStand a.samples.now a.ends.now a.root a.first a.from.now a.budget (length a.counts.now / 2)
    (c.loop-j.j + 1) n (tree_arrays a.parents.now a.edges.now a.useds.now a.counts.now) c.put_end.new.parents
    c.put_end.new.edges c.put_end.new.useds c.put_end.new.counts) (sym c.less-left.ensures)
    (rows_more a.samples.now a.ends.now a.root a.first a.from.now a.budget (length a.counts.now / 2) c.loop-j.j
    c.loop-j.left part.at (tree_arrays a.parents.now a.edges.now a.useds.now a.counts.now) c.loop-j.parents
    c.loop-j.edges c.loop-j.useds c.loop-j.counts c.put_end.new.parents c.put_end.new.edges c.put_end.new.useds
    c.put_end.new.counts of c.in_ok-part.ensures.most
    (omega (arith, c.loop-j-test.true, c.loop-j.invariant.counts_stay.size)) c.put_end.ensures.parents
    c.put_end.ensures.edges c.put_end.ensures.useds c.put_end.ensures.counts c.loop-j.invariant)

pub returns-clause-leaves : goal.returns-clause-leaves
returns-clause-leaves c =
    let a = c.args in
    rows_end a.samples.now a.ends.now a.root a.first a.from.now a.budget (length a.counts.now / 2) c.loop-j.j
    c.loop-j.left (tree_arrays a.parents.now a.edges.now a.useds.now a.counts.now) c.loop-j.parents c.loop-j.edges
    c.loop-j.useds c.loop-j.counts (omega (arith, c.loop-j-test.false, c.loop-j.auto.j-end)) c.loop-j.invariant
