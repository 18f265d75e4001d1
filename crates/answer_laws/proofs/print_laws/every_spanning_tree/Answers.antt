use Rattle.answer_laws.proofs.SpanningTrees.{every_spanning_tree}
use Rattle.answer_laws.proofs.print_laws.every_spanning_tree.Goals as goal

pub returns : goal.returns
returns c = every_spanning_tree
