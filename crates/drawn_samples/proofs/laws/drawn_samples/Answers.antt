use Rattle.drawn_samples.proofs.Drawing.{drawn_samples}
use Rattle.drawn_samples.proofs.laws.drawn_samples.Goals as goal

pub returns : goal.returns
returns c = drawn_samples
