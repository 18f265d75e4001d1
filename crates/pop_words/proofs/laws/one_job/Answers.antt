use Rattle.pop_words.proofs.OneJob.{same_job}
use Rattle.pop_words.proofs.laws.one_job.Goals as goal

pub returns : goal.returns
returns c = same_job
