use Rattle.drawn_samples.proofs.Mixed.{mixed_runs}
use Rattle.drawn_samples.proofs.laws.mixed_runs.Goals as goal

pub returns : goal.returns
returns c = mixed_runs
