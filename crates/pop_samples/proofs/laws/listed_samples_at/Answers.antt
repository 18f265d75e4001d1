use Rattle.pop_samples.proofs.Listing.{all_samples_at}
use Rattle.pop_samples.proofs.laws.listed_samples_at.Goals as goal

pub returns : goal.returns
returns c f frame w at sample = all_samples_at f frame w at sample
