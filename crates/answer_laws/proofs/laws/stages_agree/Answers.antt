use Rattle.answer_laws.proofs.AlikeWords.{stages_agree}
use Rattle.answer_laws.proofs.laws.stages_agree.Goals as goal

pub returns : goal.returns
returns c = stages_agree
