use Rattle.witness_trees.proofs.SameTrees.{trees_agree}
use Rattle.witness_trees.proofs.laws.same_tree.Goals as goal

pub returns : goal.returns
returns c = trees_agree
