use Rattle.answer_laws.proofs.StatisticAnswers.{statistic_answers}
use Rattle.answer_laws.proofs.key_laws.statistic_answers.Goals as goal

pub returns : goal.returns
returns c = statistic_answers
