use Rattle.answer_laws.proofs.RoundsLikeFormula.{rounds_like_formula}
use Rattle.answer_laws.proofs.laws.rounds_like_formula.Goals as goal

pub returns : goal.returns
returns c = rounds_like_formula
