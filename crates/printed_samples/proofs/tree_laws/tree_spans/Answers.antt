use Rattle.printed_samples.proofs.Spanning as law
use Rattle.printed_samples.proofs.tree_laws.tree_spans.Goals as goal

pub returns : goal.returns
returns c = law.tree_spans
