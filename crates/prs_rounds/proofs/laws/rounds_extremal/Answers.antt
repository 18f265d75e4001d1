use Rattle.prs_rounds.proofs.OnlyOccurring.{resampled_occurs, occurs_resampled}
use Rattle.prs_rounds.proofs.LikeFirst.{ends_like_first}
use Rattle.prs_rounds.proofs.laws.rounds_extremal.Goals as goal

pub returns-clause-set : goal.returns-clause-set
returns-clause-set c i extremal at e = (resampled_occurs i extremal at e, occurs_resampled i at e)

pub returns-clause-ends : goal.returns-clause-ends
returns-clause-ends c s rows extremal at rounds list short is firsts pops stuck first =
    ends_like_first s rows extremal at rounds list short is firsts pops stuck first
