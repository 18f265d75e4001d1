use Rattle.pop_words.proofs.JobsInRange.{asked_count}
use Rattle.pop_words.proofs.laws.count_in_range.Goals as goal

pub returns : goal.returns
returns c = asked_count
