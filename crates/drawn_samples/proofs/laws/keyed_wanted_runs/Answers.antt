use Rattle.drawn_samples.proofs.KeyedWanted.{keyed_wanted_runs}
use Rattle.drawn_samples.proofs.laws.keyed_wanted_runs.Goals as goal

pub returns : goal.returns
returns c = keyed_wanted_runs
