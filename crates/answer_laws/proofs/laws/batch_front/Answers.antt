use Rattle.answer_laws.proofs.BatchFront.{batch_front}
use Rattle.answer_laws.proofs.laws.batch_front.Goals as goal

pub returns : goal.returns
returns c = batch_front
