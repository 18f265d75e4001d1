use Rattle.pop_samples.proofs.Listing.{all_samples}
use Rattle.pop_samples.proofs.laws.listed_samples.Goals as goal

pub returns : goal.returns
returns c f frame extremal w sample = all_samples f frame extremal w sample
