use Rattle.answer_laws.proofs.ExhaustedAnswers.{exhausted_answers}
use Rattle.answer_laws.proofs.laws.exhausted_answers.Goals as goal

pub returns : goal.returns
returns c = exhausted_answers
