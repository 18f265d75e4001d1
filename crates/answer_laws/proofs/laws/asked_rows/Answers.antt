use Rattle.answer_laws.proofs.AskedRows as rows_by_words
use Rattle.answer_laws.proofs.laws.asked_rows.Goals as goal

pub returns : goal.returns
returns c = rows_by_words.asked_rows
