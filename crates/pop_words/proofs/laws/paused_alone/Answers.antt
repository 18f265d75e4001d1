use Rattle.pop_words.proofs.PausedAlone.{paused_alone}
use Rattle.pop_words.proofs.laws.paused_alone.Goals as goal

pub returns : goal.returns
returns c = paused_alone
