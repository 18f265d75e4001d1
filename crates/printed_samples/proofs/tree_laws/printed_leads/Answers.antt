use Rattle.printed_samples.proofs.Leading as law
use Rattle.printed_samples.proofs.tree_laws.printed_leads.Goals as goal

pub returns : goal.returns
returns c = law.printed_leads
