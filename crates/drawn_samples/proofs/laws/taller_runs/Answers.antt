use Rattle.drawn_samples.proofs.Taller.{taller_runs}
use Rattle.drawn_samples.proofs.laws.taller_runs.Goals as goal

pub returns : goal.returns
returns c = taller_runs
