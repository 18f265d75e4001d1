use Rattle.printed_samples.proofs.FalseClauses as law
use Rattle.printed_samples.proofs.laws.printed_false.Goals as goal

pub returns : goal.returns
returns c = law.printed_false
