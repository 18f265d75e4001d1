use Rattle.pop_batch.proofs.StopsKeepEnd as stops
use Rattle.pop_batch.proofs.laws.stops_keep_end.Goals as goal

pub returns : goal.returns
returns c = stops.stops_keep_end
