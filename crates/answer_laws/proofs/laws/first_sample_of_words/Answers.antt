use Rattle.answer_laws.proofs.FirstSample.{first_sample_of_words}
use Rattle.answer_laws.proofs.laws.first_sample_of_words.Goals as goal

pub returns : goal.returns
returns c = first_sample_of_words
