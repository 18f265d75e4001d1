use Rattle.printed_samples.proofs.Orienting as law
use Rattle.printed_samples.proofs.laws.printed_leaves.Goals as goal

pub returns : goal.returns
returns c = law.printed_leaves
