use Rattle.sink_popping.proofs.OneDirection.{sinks_extremal}
use Rattle.sink_popping.proofs.laws.sinks_extremal.Goals as goal

pub returns : goal.returns
returns c = sinks_extremal
