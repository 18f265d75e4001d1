use Rattle.answer_laws.proofs.OneWords.{one_end, told_alike}
use Rattle.answer_laws.proofs.laws.one_answer.Goals as goal

-- both answers tell the one outcome
pub returns : goal.returns
returns c words ws vs text status other out out' once like (o, comes, tells) (p, comes', tells') =
    told_alike o p (one_end words ws vs text o p once like comes comes') tells tells'
