use Rattle.spanning_samples.proofs.DrawnTrees.{wanted_trees}
use Rattle.spanning_samples.proofs.laws.wanted_trees.Goals as goal

pub returns : goal.returns
returns c = wanted_trees
