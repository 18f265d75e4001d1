use Rattle.drawn_samples.proofs.WantedRounds.{wanted_rounds}
use Rattle.drawn_samples.proofs.laws.wanted_rounds.Goals as goal

pub returns : goal.returns
returns c = wanted_rounds
