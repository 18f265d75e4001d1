use Rattle.std.proofs.Common.{◌≡◌, ◌+◌, ◌<◌, ◌∙◌, ◌^◌, [], length, sum, ap, sym, subst, arith}
use Rattle.std.proofs.lemmas.Bool.{false≢true}
use Rattle.pop_rows.specs.FlatRows.{row_at}
use Rattle.pop_rows.specs.RowList.{row_between, rows_between}
use Rattle.pop_rows.specs.PrefixSums.{running}
use Rattle.pop_rows.proofs.RowsEndToEnd.{length-rows_between, row_is, start_within, rows_written, written_laid}
use Rattle.pop_rows.proofs.SumsInPlace.{row_read, rows_next, all_accumulated, heavy_is_least}
use Rattle.pop_rows.proofs.row_list.accumulate_between.Goals as goal
use Rattle.pop_rows.proofs.row_list.accumulate_between.Goals.{After-accumulate}

pub slice_bounds-row-end : goal.slice_bounds-row-end
slice_bounds-row-end c =
    let starts = c.args.starts.now in
    let there = c.loop-v-test.true in
    omega (arith, start_within starts c.loop-v.items c.loop-v.invariant.laid (c.loop-v.v + 1) (omega arith))

-- the row is one of the rows
there : (c : After-accumulate) → c.loop-v.v < length (rows_between c.args.starts.now c.args.items.now)
there c = omega (arith, c.loop-v-test.true, length-rows_between c.args.starts.now c.args.items.now)

-- it has its numbers
row_before : (c : After-accumulate) → row_between c.args.starts.now c.loop-v.items c.loop-v.v
    ≡ row_at (rows_between c.args.starts.now c.args.items.now) c.loop-v.v
row_before c =
    let starts = c.args.starts.now in
    sym (row_is starts c.loop-v.items c.loop-v.v (omega (arith, c.loop-v-test.true)))
    ∙ row_read (rows_between starts c.args.items.now) (rows_between starts c.loop-v.items) c.loop-v.v []
    c.loop-v.invariant.summed (there c)

pub returns-then-not-accumulate-clause-heavy : goal.returns-then-not-accumulate-clause-heavy
returns-then-not-accumulate-clause-heavy c =
    let starts = c.args.starts.now in
    let before = (goal.at.returns-then-not-accumulate-clause-heavy c).After-accumulate in
    heavy_is_least (rows_between starts c.args.items.now) c.loop-v.v (rows_between starts c.loop-v.items)
    c.loop-v.invariant.summed (there before)
    (λ light. false≢true (sym c.if-not-accumulate.true
    ∙ c.accumulate.ensures.light.1 (subst (λ ys. sum ys < 2 ^ 32) (sym (row_before before)) light)))

pub loop-v-preserved : goal.loop-v-preserved
loop-v-preserved c =
    let starts = c.args.starts.now in
    let rows = rows_between starts c.args.items.now in
    let before = (goal.at.loop-v-preserved c).After-accumulate in
    let inside : c.loop-v.v + 1 < length starts = omega (arith, c.loop-v-test.true) in
    let sums : c.accumulate.new.row ≡ running 0 (row_at rows c.loop-v.v) =
    c.if-not-accumulate.ensures.sums ∙ ap (running 0) (row_before before) in
    let light : sum (row_at rows c.loop-v.v) < 2 ^ 32 =
    subst (λ ys. sum ys < 2 ^ 32) (row_before before) (c.accumulate.ensures.light.0 c.if-not-accumulate.false) in
    record {
      laid = written_laid starts c.loop-v.items c.loop-v.invariant.laid c.loop-v.v c.accumulate.new.row inside
          c.accumulate.auto.row;
      summed =
          rw (rows_written starts c.loop-v.items c.loop-v.invariant.laid c.loop-v.v c.accumulate.new.row inside
          c.accumulate.auto.row)
          (rows_next rows (rows_between starts c.loop-v.items) c.loop-v.v c.accumulate.new.row c.loop-v.invariant.summed
          (there before) sums light);
    }

pub returns-clause-sums : goal.returns-clause-sums
returns-clause-sums c =
    let starts = c.args.starts.now in
    let rows = rows_between starts c.args.items.now in
    all_accumulated rows c.loop-v.v (rows_between starts c.loop-v.items) c.loop-v.invariant.summed
    (omega (arith, c.loop-v-test.false, length-rows_between starts c.args.items.now))

pub returns-clause-light : goal.returns-clause-light
returns-clause-light c = λ v below.
    c.loop-v.invariant.summed.light v
    (omega (arith, below, c.loop-v-test.false, length-rows_between c.args.starts.now c.args.items.now))
