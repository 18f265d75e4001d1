use Rattle.pop_words.proofs.GivenAlone.{asked_alone}
use Rattle.pop_words.proofs.laws.given_alone.Goals as goal

pub returns : goal.returns
returns c = asked_alone
