use Rattle.answer_laws.proofs.PrintedRounds.{exact_round_outputs}
use Rattle.answer_laws.proofs.print_laws.exact_round_outputs.Goals as goal

pub returns : goal.returns
returns c = exact_round_outputs
