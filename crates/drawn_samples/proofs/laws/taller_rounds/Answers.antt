use Rattle.drawn_samples.proofs.Taller.{taller_rounds}
use Rattle.drawn_samples.proofs.laws.taller_rounds.Goals as goal

pub returns : goal.returns
returns c = taller_rounds
