use Rattle.drawn_samples.proofs.Retried.{retried_rounds}
use Rattle.drawn_samples.proofs.laws.retried_rounds.Goals as goal

pub returns : goal.returns
returns c = retried_rounds
