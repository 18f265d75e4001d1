use Rattle.answer_laws.proofs.ResampleLikeFormula.{resample_like_formula}
use Rattle.answer_laws.proofs.laws.resample_like_formula.Goals as goal

pub returns : goal.returns
returns c = resample_like_formula
