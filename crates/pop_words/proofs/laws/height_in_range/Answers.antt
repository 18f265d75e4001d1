use Rattle.pop_words.proofs.JobsInRange.{asked_height}
use Rattle.pop_words.proofs.laws.height_in_range.Goals as goal

pub returns : goal.returns
returns c = asked_height
