use Rattle.prs_rounds.proofs.ClosedSets.{closed_set}
use Rattle.prs_rounds.proofs.laws.resampled_closed.Goals as goal

pub returns : goal.returns
returns c s rows at = closed_set s rows at
