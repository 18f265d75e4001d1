use Rattle.printed_samples.proofs.ShownTrees as law
use Rattle.printed_samples.proofs.tree_laws.tree_shown.Goals as goal

pub returns : goal.returns
returns c = law.tree_shown
