use Rattle.spanning_samples.proofs.TreesAlone.{trees_alone}
use Rattle.spanning_samples.proofs.laws.trees_alone.Goals as goal

pub returns : goal.returns
returns c = trees_alone
