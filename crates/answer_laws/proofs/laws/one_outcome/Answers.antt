use Rattle.answer_laws.proofs.OneWords.{one_outcome}
use Rattle.answer_laws.proofs.laws.one_outcome.Goals as goal

pub returns : goal.returns
returns c = one_outcome
