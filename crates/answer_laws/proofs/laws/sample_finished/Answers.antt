use Rattle.answer_laws.proofs.Finished.{sample_finished}
use Rattle.answer_laws.proofs.laws.sample_finished.Goals as goal

pub returns : goal.returns
returns c = sample_finished
