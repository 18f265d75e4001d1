use Rattle.printed_samples.proofs.StuckCycles as law
use Rattle.printed_samples.proofs.tree_laws.printed_cycles.Goals as goal

pub returns : goal.returns
returns c = law.printed_cycles
