use Rattle.array_laws.proofs.RowTexts.{orientation_rows_printed}
use Rattle.array_laws.proofs.laws.orientation_rows_printed.Goals as goal

pub returns : goal.returns
returns c = orientation_rows_printed
