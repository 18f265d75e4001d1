use Rattle.answer_laws.proofs.ShownSamples.{exhausted_shown}
use Rattle.answer_laws.proofs.laws.exhausted_shown.Goals as goal

pub returns : goal.returns
returns c = exhausted_shown
