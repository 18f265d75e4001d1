use Rattle.drawn_samples.proofs.Drawing.{drawn_samples_at}
use Rattle.drawn_samples.proofs.laws.drawn_samples_at.Goals as goal

pub returns : goal.returns
returns c = drawn_samples_at
