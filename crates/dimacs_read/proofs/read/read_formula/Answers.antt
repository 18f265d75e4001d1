use Rattle.std.proofs.Common.{Err, subst, sym}
use Rattle.pop_edge.proofs.AnsweredLines.{early_allowed, passed_on}
use Rattle.dimacs_read.specs.CnfText.{AnswersCnf, cnf}
use Rattle.dimacs_read.proofs.AnsweredText.{answers_whole, cnf_allows, cnf_in_order, knows_clean}
use Rattle.dimacs_read.proofs.read.read_formula.Goals as goal

pub read_lines-requires-clause-order : goal.read_lines-requires-clause-order
read_lines-requires-clause-order g c = cnf_in_order

pub read_lines-requires-clause-clean : goal.read_lines-requires-clause-clean
read_lines-requires-clause-clean g c = knows_clean

pub returns-in_err-line-clause-text : goal.returns-in_err-line-clause-text
returns-in_err-line-clause-text g c = λ text is.
    subst (AnswersCnf text) (sym (passed_on c.from_residual.result _ c.from_residual.ensures.1))
    (early_allowed cnf text (λ x. AnswersCnf text (Err x)) c.in_err-line.field-0.0 (cnf_allows text)
    (c.in_err-line.ensures.early text is))

pub returns-clause-text : goal.returns-clause-text
returns-clause-text g c = λ text is.
    answers_whole c.read_lines.new.reader (g.S.Source.left c.args.source.now) c.in_ok-line.line c.finish.result text
    c.in_ok-line.ensures.all c.finish.ensures is
