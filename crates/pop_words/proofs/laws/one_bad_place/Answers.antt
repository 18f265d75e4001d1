use Rattle.pop_words.specs.CommandLines.{AreWords}
use Rattle.pop_words.proofs.OneJob.{same_first_bad}
use Rattle.pop_words.proofs.laws.one_bad_place.Goals as goal

pub returns : goal.returns
returns c = same_first_bad AreWords
