use Rattle.pop_samples.proofs.Shares.{entry_shares}
use Rattle.pop_samples.proofs.laws.entry_shares.Goals as goal

pub returns : goal.returns
returns c = entry_shares
