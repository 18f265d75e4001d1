use Rattle.graph_read.proofs.GrammarLaw as law
use Rattle.graph_read.proofs.laws.accepts_exactly.Goals as goal

pub returns : goal.returns
returns c = law.accepts_exactly
