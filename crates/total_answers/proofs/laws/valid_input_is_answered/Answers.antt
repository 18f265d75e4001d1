use Rattle.total_answers.proofs.ValidAnswers.{valid_answered}
use Rattle.total_answers.proofs.laws.valid_input_is_answered.Goals as goal

pub returns : goal.returns
returns c = valid_answered
