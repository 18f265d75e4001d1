use Rattle.printed_samples.proofs.StuckSinks as law
use Rattle.printed_samples.proofs.laws.printed_sinks.Goals as goal

pub returns : goal.returns
returns c = law.printed_sinks
