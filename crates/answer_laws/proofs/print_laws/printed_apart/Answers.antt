use Rattle.answer_laws.proofs.PrintedApart.{assignments_apart, orientations_apart, trees_apart}
use Rattle.answer_laws.proofs.print_laws.printed_apart.Goals as goal

pub returns-clause-assignments : goal.returns-clause-assignments
returns-clause-assignments c = assignments_apart

pub returns-clause-orientations : goal.returns-clause-orientations
returns-clause-orientations c = orientations_apart

pub returns-clause-trees : goal.returns-clause-trees
returns-clause-trees c = trees_apart
