use Rattle.spanning_samples.proofs.OneTree.{each_is_tree}
use Rattle.spanning_samples.proofs.laws.each_is_tree.Goals as goal

pub returns : goal.returns
returns c = each_is_tree
