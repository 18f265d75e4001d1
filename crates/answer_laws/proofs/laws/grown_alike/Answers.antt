use Rattle.answer_laws.proofs.AlikeWords.{grown_alike}
use Rattle.answer_laws.proofs.laws.grown_alike.Goals as goal

pub returns : goal.returns
returns c = grown_alike
