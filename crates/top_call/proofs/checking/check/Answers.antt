use Rattle.std.proofs.Common.{Err, ap, ◌∙◌}
use Rattle.job_subjects.proofs.Carrying.{passed_on}
use Rattle.top_call.proofs.Verdicts.{spelled_result, unread_result}
use Rattle.top_call.proofs.checking.check.Goals as goal

-- the text is refused
pub returns-in_err-formula-clause-answer : goal.returns-in_err-formula-clause-answer
returns-in_err-formula-clause-answer g c text known read =
    let e = c.in_err-formula.field-0.0 in
    unread_result text c.from_residual.result e c.from_residual.ensures.1 (c.in_err-formula.ensures.text text known)
    (λ is. read (passed_on c.from_residual.result e c.from_residual.ensures.1 ∙ ap (λ x. Err x) is))

-- what comes of the formula comes of the text that spells it
pub returns-clause-answer : goal.returns-clause-answer
returns-clause-answer g c text known read =
    spelled_result text c.in_ok-formula.formula c.check_formula.result (c.in_ok-formula.ensures.text text known)
    c.check_formula.ensures
