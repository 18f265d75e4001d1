use Rattle.answer_laws.proofs.StoppedAnswers as stopped
use Rattle.answer_laws.proofs.key_laws.stopped_answers.Goals as goal

pub returns : goal.returns
returns c = stopped.stopped_answers
