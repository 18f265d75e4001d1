use Rattle.std.proofs.Common.{subst}
use Rattle.graph_read.specs.Graphs.{IsGraph}
use Rattle.graph_read.proofs.GridGraphs.{grid_is_graph}
use Rattle.graph_read.proofs.grid_adjacency.GridAdjacency.vertices.Goals as goal

pub returns-clause-graph : goal.returns-clause-graph
returns-clause-graph c = subst IsGraph c.self.view_is (grid_is_graph c.self.inside.side c.self.invariant)
