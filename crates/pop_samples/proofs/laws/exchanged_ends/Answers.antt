use Rattle.pop_samples.proofs.ExchangedSamples.{exchanged_ends}
use Rattle.pop_samples.proofs.laws.exchanged_ends.Goals as goal

pub returns : goal.returns
returns c = exchanged_ends
