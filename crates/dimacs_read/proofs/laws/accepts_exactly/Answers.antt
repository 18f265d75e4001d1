use Rattle.dimacs_read.proofs.GrammarLaw as law
use Rattle.dimacs_read.proofs.laws.accepts_exactly.Goals as goal

pub returns : goal.returns
returns c = law.accepts_exactly
