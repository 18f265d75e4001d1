use Rattle.std.proofs.Common.{sym, subst}
use Rattle.graph_read.specs.Graphs.{IsVertex}
use Rattle.graph_read.specs.Paths.{IsConnected}
use Rattle.graph_read.proofs.GridGraphs.{first_vertex}
use Rattle.graph_read.proofs.GridPaths.{grid_connected}
use Rattle.cycle_popping.proofs.grids.grid_arrows.Goals as goal

pub arrows_of-requires : goal.arrows_of-requires
arrows_of-requires c =
    record {
      root = subst (λ f. IsVertex f.vertices 1) (sym c.of.ensures) (first_vertex c.args.side c.requires.side);
      joined = subst (λ f. IsConnected f 1) (sym c.of.ensures) (grid_connected c.args.side c.requires.side);
    }
