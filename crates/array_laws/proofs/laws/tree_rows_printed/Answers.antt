use Rattle.array_laws.proofs.RowTexts.{tree_rows_printed}
use Rattle.array_laws.proofs.laws.tree_rows_printed.Goals as goal

pub returns : goal.returns
returns c = tree_rows_printed
