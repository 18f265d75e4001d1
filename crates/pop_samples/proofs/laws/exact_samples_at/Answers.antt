use Rattle.pop_samples.proofs.ExactCounts.{exact_counts_at}
use Rattle.pop_samples.proofs.laws.exact_samples_at.Goals as goal

pub returns : goal.returns
returns c f frame w x at is_w is_x all others mine theirs =
    exact_counts_at f frame w x at is_w is_x all others mine theirs
