use Rattle.answer_laws.proofs.OtherRows.{asked_others}
use Rattle.answer_laws.proofs.laws.asked_others.Goals as goal

pub returns : goal.returns
returns c = asked_others
