use Rattle.round_samples.proofs.SampledAlike.{sampled_alike, sampled_alike_at}
use Rattle.round_samples.proofs.laws.sampled_alike.Goals as goal

pub returns-clause-cursors : goal.returns-clause-cursors
returns-clause-cursors c = sampled_alike_at

pub returns-clause-samples : goal.returns-clause-samples
returns-clause-samples c = sampled_alike
