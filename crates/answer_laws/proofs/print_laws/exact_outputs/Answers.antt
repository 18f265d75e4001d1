use Rattle.answer_laws.proofs.PrintedCounts.{exact_outputs}
use Rattle.answer_laws.proofs.print_laws.exact_outputs.Goals as goal

pub returns : goal.returns
returns c = exact_outputs
