use Rattle.answer_laws.proofs.RoundAnswers.{reached_round_answers}
use Rattle.answer_laws.proofs.round_laws.reached_round_answers.Goals as goal

pub returns : goal.returns
returns c = reached_round_answers
