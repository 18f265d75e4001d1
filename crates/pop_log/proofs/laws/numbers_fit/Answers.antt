use Rattle.std.proofs.Common.{subst}
use Rattle.pop_log.specs.Candidates.{NumbersFit}
use Rattle.pop_log.proofs.laws.numbers_fit.Goals as goal

pub returns-clause-numbers : goal.returns-clause-numbers
returns-clause-numbers c = subst NumbersFit c.family.ensures c.greatest_number-greatest.ensures
