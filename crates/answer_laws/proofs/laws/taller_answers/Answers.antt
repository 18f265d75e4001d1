use Rattle.answer_laws.proofs.TallerBatches.{taller_answers}
use Rattle.answer_laws.proofs.laws.taller_answers.Goals as goal

pub returns : goal.returns
returns c = taller_answers
