use Rattle.answer_laws.proofs.ShownSamples.{sample_shown}
use Rattle.answer_laws.proofs.laws.sample_shown.Goals as goal

pub returns : goal.returns
returns c = sample_shown
