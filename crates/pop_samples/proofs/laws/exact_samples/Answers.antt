use Rattle.pop_samples.proofs.ExactCounts.{exact_counts}
use Rattle.pop_samples.proofs.laws.exact_samples.Goals as goal

pub returns : goal.returns
returns c f frame extremal w x is_w is_x all others mine theirs =
    exact_counts f frame extremal w x is_w is_x all others mine theirs
