use Rattle.answer_laws.proofs.KeyAnswers.{keyed_round_answers}
use Rattle.answer_laws.proofs.key_laws.keyed_round_answers.Goals as goal

pub returns : goal.returns
returns c = keyed_round_answers
