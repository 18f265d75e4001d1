use Rattle.array_laws.proofs.FormulaTexts.{round_row_printed}
use Rattle.array_laws.proofs.laws.round_row_printed.Goals as goal

pub returns : goal.returns
returns c = round_row_printed
