use Rattle.answer_laws.proofs.ExactAnswers.{reached_answers}
use Rattle.answer_laws.proofs.laws.reached_answers.Goals as goal

pub returns : goal.returns
returns c = reached_answers
