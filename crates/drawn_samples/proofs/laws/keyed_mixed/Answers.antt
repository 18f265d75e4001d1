use Rattle.drawn_samples.proofs.KeyedMixed as keyed
use Rattle.drawn_samples.proofs.laws.keyed_mixed.Goals as goal

pub returns : goal.returns
returns c = keyed.keyed_mixed
