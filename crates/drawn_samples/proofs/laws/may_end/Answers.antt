use Rattle.drawn_samples.proofs.MayEnd.{may_end}
use Rattle.drawn_samples.proofs.laws.may_end.Goals as goal

pub returns : goal.returns
returns c = may_end
