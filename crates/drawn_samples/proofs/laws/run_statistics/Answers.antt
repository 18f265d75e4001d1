use Rattle.drawn_samples.proofs.Statistics.{run_statistics}
use Rattle.drawn_samples.proofs.laws.run_statistics.Goals as goal

pub returns : goal.returns
returns c = run_statistics
