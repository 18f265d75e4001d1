use Rattle.pop_samples.proofs.Reached.{reached_samples}
use Rattle.pop_samples.proofs.laws.reached_samples.Goals as goal

pub returns : goal.returns
returns c = reached_samples
