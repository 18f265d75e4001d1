use Rattle.answer_laws.proofs.ShownLogs as shown
use Rattle.answer_laws.proofs.laws.one_stopped_run.Goals as goal

pub returns : goal.returns
returns c = shown.one_stopped_run
