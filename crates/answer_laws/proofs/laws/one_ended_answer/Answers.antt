use Rattle.answer_laws.proofs.OneWords.{one_ended_answer}
use Rattle.answer_laws.proofs.laws.one_ended_answer.Goals as goal

pub returns : goal.returns
returns c = one_ended_answer
