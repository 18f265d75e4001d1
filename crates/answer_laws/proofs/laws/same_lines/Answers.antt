use Rattle.answer_laws.proofs.SameLines.{same_lines}
use Rattle.answer_laws.proofs.laws.same_lines.Goals as goal

pub returns : goal.returns
returns c = same_lines
