use Rattle.pop_words.proofs.JobsInRange.{asked_size}
use Rattle.pop_words.proofs.laws.size_in_range.Goals as goal

pub returns : goal.returns
returns c = asked_size
