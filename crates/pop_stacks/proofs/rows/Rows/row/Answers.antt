use Rattle.std.proofs.Common.{◌<◌, ◌^◌, length, ap, arith, subst}
use Rattle.pop_stacks.specs.KeptRows.{rows_of}
use Rattle.pop_stacks.specs.Rows.{lists_of, AreShort}
use Rattle.pop_stacks.proofs.RowsLemmas.{row_has, length-lists_of}
use Rattle.pop_stacks.proofs.rows.Rows.row.Goals as goal

pub returns-in-Nested-clause-short : goal.returns-in-Nested-clause-short
returns-in-Nested-clause-short c =
    let rows = c.in-Nested.rows.items in
    let short : AreShort (lists_of rows) = subst (λ kept. AreShort (rows_of kept)) c.in-Nested.is c.self.invariant in
    let size = ap (λ kept. length (rows_of kept)) c.in-Nested.is in
    let below : c.args.v < length rows = omega (arith, ap length c.self.view_is, size, length-lists_of rows) in
    rw c.deref.ensures.value
    (row_has (λ row. length row < 2 ^ 31) rows c.args.v c.index.result.now below c.index.ensures short.each)
