use Rattle.witness_trees.proofs.OneUse.{one_use}
use Rattle.witness_trees.proofs.laws.one_pop.Goals as goal

pub returns : goal.returns
returns c = λ i start log v below legal t u r s k. one_use i start v below log legal t u r s k
