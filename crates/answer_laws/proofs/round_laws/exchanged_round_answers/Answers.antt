use Rattle.answer_laws.proofs.RoundAnswers.{exchanged_round_answers}
use Rattle.answer_laws.proofs.round_laws.exchanged_round_answers.Goals as goal

pub returns : goal.returns
returns c = exchanged_round_answers
