use Rattle.answer_laws.proofs.EverySample.{every_assignment, every_orientation, every_tree}
use Rattle.answer_laws.proofs.laws.every_sample.Goals as goal

pub returns-clause-assignments : goal.returns-clause-assignments
returns-clause-assignments c = every_assignment

pub returns-clause-orientations : goal.returns-clause-orientations
returns-clause-orientations c = every_orientation

pub returns-clause-trees : goal.returns-clause-trees
returns-clause-trees c = every_tree
