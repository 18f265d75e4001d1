use Rattle.drawn_samples.proofs.Grown.{grown_runs}
use Rattle.drawn_samples.proofs.laws.grown_runs.Goals as goal

pub returns : goal.returns
returns c = grown_runs
