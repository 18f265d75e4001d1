use Rattle.spanning_samples.proofs.DrawnTrees.{drawn_trees}
use Rattle.spanning_samples.proofs.laws.drawn_trees.Goals as goal

pub returns : goal.returns
returns c = drawn_trees
