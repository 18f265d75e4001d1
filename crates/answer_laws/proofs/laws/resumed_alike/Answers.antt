use Rattle.answer_laws.proofs.ResumedUnpaused as lines
use Rattle.answer_laws.proofs.laws.resumed_alike.Goals as goal

pub returns : goal.returns
returns c = lines.resumed_alike
