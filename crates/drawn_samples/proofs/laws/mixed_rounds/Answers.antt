use Rattle.drawn_samples.proofs.Mixed.{mixed_rounds}
use Rattle.drawn_samples.proofs.laws.mixed_rounds.Goals as goal

pub returns : goal.returns
returns c = mixed_rounds
