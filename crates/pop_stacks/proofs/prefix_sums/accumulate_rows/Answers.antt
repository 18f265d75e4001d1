use Rattle.std.proofs.Common.{◌≡◌, ◌∙◌, ◌<◌, ◌^◌, length, sum, ap, sym, subst, arith}
use Rattle.std.specs.Vec.{with_items}
use Rattle.std.proofs.lemmas.Bool.{false≢true}
use Rattle.std.proofs.lemmas.List.{with_items_is}
use Rattle.pop_model.specs.Stacks.{row_of}
use Rattle.pop_rows.specs.PrefixSums.{running}
use Rattle.pop_rows.proofs.SumsInPlace.{heavy_is_least}
use Rattle.pop_stacks.specs.Rows.{lists_of}
use Rattle.pop_stacks.proofs.RowsLemmas.{length-lists_of}
use Rattle.pop_stacks.proofs.SumsInPlace.{row_read, rows_next}
use Rattle.pop_stacks.proofs.prefix_sums.accumulate_rows.Goals as goal
use Rattle.pop_stacks.proofs.prefix_sums.accumulate_rows.Goals.{After-accumulate}

-- the row is one of the rows
there : (c : After-accumulate) → c.loop-v.v < length (lists_of c.args.rows.now.items)
there c = omega (arith, length-lists_of c.args.rows.now.items, c.len-v-end.ensures)

-- it has its numbers
row_before : (c : After-accumulate) → c.deref_mut.result.now ≡ row_of (lists_of c.args.rows.now.items) c.loop-v.v
row_before c =
    c.deref_mut.ensures.value
    ∙ row_read c.loop-v.rows.items (lists_of c.args.rows.now.items) c.loop-v.v c.index_mut-row.result.now
    c.loop-v.invariant (there c) c.index_mut-row.ensures.value

pub returns-then-not-accumulate-clause-heavy : goal.returns-then-not-accumulate-clause-heavy
returns-then-not-accumulate-clause-heavy c =
    let before = (goal.at.returns-then-not-accumulate-clause-heavy c).After-accumulate in
    heavy_is_least (lists_of c.args.rows.now.items) c.loop-v.v (lists_of c.loop-v.rows.items) c.loop-v.invariant
    (there before)
    (λ light. false≢true (sym c.if-not-accumulate.true
    ∙ c.accumulate.ensures.light.1 (subst (λ ys. sum ys < 2 ^ 32) (sym (row_before before)) light)))

pub loop-v-preserved : goal.loop-v-preserved
loop-v-preserved c =
    let rows = lists_of c.args.rows.now.items in
    let before = (goal.at.loop-v-preserved c).After-accumulate in
    let sums : (with_items c.index_mut-row.result.now c.accumulate.new.row).items ≡ running 0 (row_of rows c.loop-v.v) =
    with_items_is c.index_mut-row.result.now c.accumulate.new.row (c.accumulate.auto.row ∙ c.deref_mut.ensures.len)
    ∙ c.if-not-accumulate.ensures.sums ∙ ap (running 0) (row_before before) in
    rows_next c.loop-v.rows.items rows c.loop-v.v (with_items c.index_mut-row.result.now c.accumulate.new.row)
    c.loop-v.invariant (there before) sums
    (subst (λ ys. sum ys < 2 ^ 32) (row_before before) (c.accumulate.ensures.light.0 c.if-not-accumulate.false))
