use Rattle.drawn_samples.proofs.LogsApart.{independent_of_logs}
use Rattle.drawn_samples.proofs.laws.independent_of_logs.Goals as goal

pub returns : goal.returns
returns c = independent_of_logs
