use Rattle.answer_laws.proofs.RoundOutputs.{round_outputs}
use Rattle.answer_laws.proofs.round_laws.round_outputs.Goals as goal

pub returns : goal.returns
returns c = round_outputs
