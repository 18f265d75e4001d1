use Rattle.graph_read.specs.GraphText.{AnswersGraph}
use Rattle.job_subjects.proofs.RefusedTexts.{text_refused}
use Rattle.job_subjects.proofs.reading.graph_of.Goals as goal

pub returns-in_err-read_graph-clause-text : goal.returns-in_err-read_graph-clause-text
returns-in_err-read_graph-clause-text g c text left =
    text_refused (AnswersGraph text) c.from_residual.result c.in_err-read_graph.field-0.0 c.from_residual.ensures.1
    (c.in_err-read_graph.ensures.text text left)
