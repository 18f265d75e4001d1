use Rattle.answer_laws.proofs.SameReading.{same_reading}
use Rattle.answer_laws.proofs.laws.same_reading.Goals as goal

pub returns : goal.returns
returns c = same_reading
