use Rattle.answer_laws.proofs.ShownLogs as shown
use Rattle.answer_laws.proofs.laws.one_shown_log.Goals as goal

pub returns : goal.returns
returns c = shown.one_shown_log
