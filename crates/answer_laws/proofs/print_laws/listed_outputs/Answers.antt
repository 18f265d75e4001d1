use Rattle.answer_laws.proofs.ListedOutputs as listed
use Rattle.answer_laws.proofs.print_laws.listed_outputs.Goals as goal

pub returns : goal.returns
returns c = listed.listed_outputs
