use Rattle.drawn_samples.proofs.KeyedWanted.{keyed_wanted_rounds}
use Rattle.drawn_samples.proofs.laws.keyed_wanted_rounds.Goals as goal

pub returns : goal.returns
returns c = keyed_wanted_rounds
