use Rattle.printed_samples.proofs.ShownTrees as law
use Rattle.printed_samples.proofs.tree_laws.made_shown.Goals as goal

pub returns : goal.returns
returns c = law.made_shown
