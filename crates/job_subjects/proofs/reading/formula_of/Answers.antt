use Rattle.dimacs_read.specs.CnfText.{AnswersCnf}
use Rattle.job_subjects.proofs.RefusedTexts.{text_refused}
use Rattle.job_subjects.proofs.reading.formula_of.Goals as goal

pub returns-in_err-read_formula-clause-text : goal.returns-in_err-read_formula-clause-text
returns-in_err-read_formula-clause-text g c text left =
    text_refused (AnswersCnf text) c.from_residual.result c.in_err-read_formula.field-0.0 c.from_residual.ensures.1
    (c.in_err-read_formula.ensures.text text left)
