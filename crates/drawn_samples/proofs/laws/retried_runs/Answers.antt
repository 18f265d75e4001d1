use Rattle.drawn_samples.proofs.Retried.{retried_runs}
use Rattle.drawn_samples.proofs.laws.retried_runs.Goals as goal

pub returns : goal.returns
returns c = retried_runs
