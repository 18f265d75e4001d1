use Rattle.drawn_samples.proofs.LogsApart.{drawn_by_logs}
use Rattle.drawn_samples.proofs.laws.drawn_by_logs.Goals as goal

pub returns : goal.returns
returns c = drawn_by_logs
