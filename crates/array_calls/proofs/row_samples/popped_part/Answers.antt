use Rattle.array_calls.proofs.RowParts.{popped_row}
use Rattle.array_calls.proofs.row_samples.popped_part.Goals as goal

pub returns : goal.returns
returns c =
    let a = c.args in
    popped_row a.samples.now a.j a.from a.limit c.in_ok-part.part c.popped.result c.popped.ensures c.in_ok-part.ensures
