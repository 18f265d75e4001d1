use Rattle.std.proofs.Common.{refl, sym, ◌∙◌}
use Rattle.answer_laws.proofs.OneWords.{one_outcome, told_alike}
use Rattle.answer_laws.proofs.OneWords.{one_logged}
use Rattle.answer_laws.proofs.laws.one_logged_answer.Goals as goal

-- both answers tell the one outcome that shows the log
pub returns : goal.returns
returns c words ws text log status other out out' (o, (comes, shows), tells) (p, (comes', shows'), tells') =
    told_alike o p (one_logged words ws text o p comes comes' (shows ∙ sym shows')
    (one_outcome words ws ws text o p (λ job asks other log. refl) comes comes')) tells tells'
