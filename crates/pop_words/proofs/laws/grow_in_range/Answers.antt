use Rattle.pop_words.proofs.JobsInRange.{asked_grow}
use Rattle.pop_words.proofs.laws.grow_in_range.Goals as goal

pub returns : goal.returns
returns c = asked_grow
