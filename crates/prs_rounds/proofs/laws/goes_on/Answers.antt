use Rattle.prs_rounds.proofs.GoingOn.{goes_on, stops_on_the_way}
use Rattle.prs_rounds.proofs.laws.goes_on.Goals as goal

pub returns : goal.returns
returns c = record { stops = stops_on_the_way; ends = goes_on }
