use Rattle.pop_batch.proofs.StopsKeepEnd as stops
use Rattle.pop_batch.proofs.laws.one_part_end.Goals as goal

pub returns : goal.returns
returns c = stops.one_part_end
