use Rattle.pop_log.proofs.SortedInLayers as standing
use Rattle.pop_log.proofs.laws.sorted_in_layers.Goals as goal

pub returns : goal.returns
returns c = standing.sorted_in_layers
