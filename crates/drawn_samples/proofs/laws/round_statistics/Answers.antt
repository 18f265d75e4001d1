use Rattle.drawn_samples.proofs.Statistics.{round_statistics}
use Rattle.drawn_samples.proofs.laws.round_statistics.Goals as goal

pub returns : goal.returns
returns c = round_statistics
