use Rattle.answer_laws.proofs.EverySample.{samples_satisfy}
use Rattle.answer_laws.proofs.round_laws.samples_satisfy.Goals as goal

pub returns : goal.returns
returns c = samples_satisfy
