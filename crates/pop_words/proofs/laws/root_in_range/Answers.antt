use Rattle.pop_words.proofs.JobsInRange.{asked_root}
use Rattle.pop_words.proofs.laws.root_in_range.Goals as goal

pub returns : goal.returns
returns c = asked_root
