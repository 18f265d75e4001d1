use Rattle.spanning_samples.proofs.OneTree.{one_tree_each}
use Rattle.spanning_samples.proofs.laws.one_tree_each.Goals as goal

pub returns : goal.returns
returns c = one_tree_each
