use Rattle.graph_read.proofs.GridPaths as law
use Rattle.graph_read.proofs.laws.grid_connected.Goals as goal

pub returns : goal.returns
returns c = law.grid_connected
