use Rattle.graph_read.proofs.GrammarLaw as law
use Rattle.graph_read.proofs.laws.one_graph.Goals as goal

pub returns : goal.returns
returns c = law.one_graph
