use Rattle.pop_words.proofs.JobsInRange.{asked_workers}
use Rattle.pop_words.proofs.laws.workers_in_range.Goals as goal

pub returns : goal.returns
returns c = asked_workers
