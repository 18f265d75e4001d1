use Rattle.printed_samples.proofs.ShownEnds as law
use Rattle.printed_samples.proofs.laws.orientation_shown.Goals as goal

pub returns : goal.returns
returns c = law.orientation_shown
