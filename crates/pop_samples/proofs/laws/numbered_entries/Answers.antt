use Rattle.pop_samples.proofs.Numbers.{numbered_entries}
use Rattle.pop_samples.proofs.laws.numbered_entries.Goals as goal

pub returns : goal.returns
returns c = numbered_entries
