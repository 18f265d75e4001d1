use Rattle.answer_laws.proofs.FirstSample as firsts
use Rattle.answer_laws.proofs.laws.first_sample.Goals as goal

pub returns : goal.returns
returns c = firsts.first_sample
