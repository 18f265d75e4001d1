use Rattle.answer_laws.proofs.ExactAnswers.{exchanged_answers}
use Rattle.answer_laws.proofs.laws.exchanged_answers.Goals as goal

pub returns : goal.returns
returns c = exchanged_answers
