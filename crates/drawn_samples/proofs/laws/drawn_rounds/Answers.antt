use Rattle.drawn_samples.proofs.Drawing.{drawn_rounds}
use Rattle.drawn_samples.proofs.laws.drawn_rounds.Goals as goal

pub returns : goal.returns
returns c = drawn_rounds
