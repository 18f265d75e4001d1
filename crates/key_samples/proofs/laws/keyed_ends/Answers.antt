use Rattle.key_samples.proofs.KeyedEnds.{keyed_ends}
use Rattle.key_samples.proofs.laws.keyed_ends.Goals as goal

pub returns : goal.returns
returns c = keyed_ends
