use Rattle.array_laws.proofs.FormulaTexts.{assignment_rows_printed}
use Rattle.array_laws.proofs.laws.assignment_rows_printed.Goals as goal

pub returns : goal.returns
returns c = assignment_rows_printed
