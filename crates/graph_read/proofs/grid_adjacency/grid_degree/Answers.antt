use Rattle.std.proofs.Common.{arith}
use Rattle.graph_read.proofs.GridDegrees.{degree_by_number}
use Rattle.graph_read.proofs.grid_adjacency.grid_degree.Goals as goal

pub returns : goal.returns
returns c =
    omega (
      arith,
      c.one_where.ensures,
      c.one_where-2.ensures,
      c.one_where-3.ensures,
      c.one_where-4.ensures,
      degree_by_number c.args.side c.args.vertex c.requires.side c.requires.vertex,
    )
