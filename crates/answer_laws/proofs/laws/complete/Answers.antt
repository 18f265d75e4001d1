use Rattle.answer_laws.proofs.Finished.{all_done}
use Rattle.answer_laws.proofs.laws.complete.Goals as goal

pub returns : goal.returns
returns c = all_done
