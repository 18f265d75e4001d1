use Rattle.drawn_samples.proofs.WantedRuns.{wanted_runs}
use Rattle.drawn_samples.proofs.laws.wanted_runs.Goals as goal

pub returns : goal.returns
returns c = wanted_runs
