use Rattle.pop_samples.proofs.ExchangedSamples.{exchange_leaves}
use Rattle.pop_samples.proofs.laws.exchanged_samples.Goals as goal

pub returns : goal.returns
returns c f frame w x at rows s sample = exchange_leaves f frame w x at rows s sample
