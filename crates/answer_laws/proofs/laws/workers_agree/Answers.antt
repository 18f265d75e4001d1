use Rattle.answer_laws.proofs.AlikeWords.{workers_agree}
use Rattle.answer_laws.proofs.laws.workers_agree.Goals as goal

pub returns : goal.returns
returns c = workers_agree
