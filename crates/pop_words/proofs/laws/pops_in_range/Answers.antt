use Rattle.pop_words.proofs.JobsInRange.{asked_pops}
use Rattle.pop_words.proofs.laws.pops_in_range.Goals as goal

pub returns : goal.returns
returns c = asked_pops
