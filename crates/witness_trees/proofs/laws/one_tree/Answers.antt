use Rattle.witness_trees.proofs.OneTree.{one_tree}
use Rattle.witness_trees.proofs.laws.one_tree.Goals as goal

pub returns : goal.returns
returns c = one_tree
