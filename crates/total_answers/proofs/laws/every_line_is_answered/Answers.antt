use Rattle.total_answers.proofs.Answered.{always_answered}
use Rattle.total_answers.proofs.laws.every_line_is_answered.Goals as goal

pub returns : goal.returns
returns c = always_answered
