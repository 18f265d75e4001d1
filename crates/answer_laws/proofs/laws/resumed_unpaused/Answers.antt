use Rattle.answer_laws.proofs.ResumedUnpaused as unpaused
use Rattle.answer_laws.proofs.laws.resumed_unpaused.Goals as goal

pub returns : goal.returns
returns c = unpaused.resumed_unpaused
