use Rattle.spanning_samples.proofs.OneTree.{tree_weights}
use Rattle.spanning_samples.proofs.laws.tree_weights.Goals as goal

pub returns : goal.returns
returns c = tree_weights
