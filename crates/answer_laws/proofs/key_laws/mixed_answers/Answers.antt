use Rattle.answer_laws.proofs.MixedAnswers as mixed
use Rattle.answer_laws.proofs.key_laws.mixed_answers.Goals as goal

pub returns : goal.returns
returns c = mixed.mixed_answers
