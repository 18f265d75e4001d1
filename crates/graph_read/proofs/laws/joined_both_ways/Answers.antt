use Rattle.graph_read.proofs.JoinedPaths as law
use Rattle.graph_read.proofs.laws.joined_both_ways.Goals as goal

pub returns : goal.returns
returns c = law.joined_both_ways
