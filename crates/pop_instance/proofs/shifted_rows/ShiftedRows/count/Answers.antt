use Rattle.std.proofs.Common.{length, ap, arith}
use Rattle.pop_instance.proofs.ShiftedRowsLemmas.{count_shifted}
use Rattle.pop_instance.proofs.shifted_rows.ShiftedRows.count.Goals as goal

pub returns : goal.returns
returns c =
    let size = count_shifted c.self.inside.kinds.items c.self.inside.patterns in
    omega (arith, c.len.ensures, c.self.inside.kinds.ok.0, size, ap length c.self.view_is)
