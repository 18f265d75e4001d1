use Rattle.std.proofs.Common.{ap, arith, length}
use Rattle.pop_rows.proofs.RowsEndToEnd.{length-rows_between}
use Rattle.pop_rows.proofs.row_list.RowList.count.Goals as goal

pub returns : goal.returns
returns c =
    let a = c.self.inside in
    omega (
      arith,
      c.len.ensures,
      a.starts.ok.0,
      length-rows_between a.starts.items a.items.items,
      ap length c.self.view_is,
    )
