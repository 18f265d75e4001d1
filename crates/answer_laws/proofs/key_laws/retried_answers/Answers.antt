use Rattle.answer_laws.proofs.RetriedAnswers.{retried_answers}
use Rattle.answer_laws.proofs.key_laws.retried_answers.Goals as goal

pub returns : goal.returns
returns c = retried_answers
