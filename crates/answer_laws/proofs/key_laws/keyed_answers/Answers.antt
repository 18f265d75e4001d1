use Rattle.answer_laws.proofs.KeyAnswers.{keyed_answers}
use Rattle.answer_laws.proofs.key_laws.keyed_answers.Goals as goal

pub returns : goal.returns
returns c = keyed_answers
