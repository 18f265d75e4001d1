use Rattle.answer_laws.proofs.PausedCerts as exactly
use Rattle.answer_laws.proofs.laws.paused_exactly.Goals as goal

pub returns : goal.returns
returns c = exactly.paused_exactly
