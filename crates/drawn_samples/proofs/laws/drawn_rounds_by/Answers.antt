use Rattle.drawn_samples.proofs.Drawing.{drawn_rounds_by}
use Rattle.drawn_samples.proofs.laws.drawn_rounds_by.Goals as goal

pub returns : goal.returns
returns c = drawn_rounds_by
