use Rattle.dimacs_read.proofs.GrammarLaw as law
use Rattle.dimacs_read.proofs.laws.one_formula.Goals as goal

pub returns : goal.returns
returns c = law.one_formula
