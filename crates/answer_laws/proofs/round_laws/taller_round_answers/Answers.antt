use Rattle.answer_laws.proofs.TallerRounds.{taller_round_answers}
use Rattle.answer_laws.proofs.round_laws.taller_round_answers.Goals as goal

pub returns : goal.returns
returns c = taller_round_answers
