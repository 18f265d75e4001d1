use Rattle.std.proofs.Common.{◌≡◌, All, sym, subst}
use Rattle.graph_read.specs.Graphs.{IsVertex}
use Rattle.graph_read.specs.Paths.{IsConnected}
use Rattle.graph_read.proofs.GridGraphs.{first_vertex, grid_ones}
use Rattle.graph_read.proofs.GridPaths.{grid_connected}
use Rattle.cycle_popping.proofs.grids.grid_weights.Goals as goal

pub ones_of-requires : goal.ones_of-requires
ones_of-requires c =
    record {
      root = subst (λ f. IsVertex f.vertices 1) (sym c.of.ensures) (first_vertex c.args.side c.requires.side);
      joined = subst (λ f. IsConnected f 1) (sym c.of.ensures) (grid_connected c.args.side c.requires.side);
      ones = subst (λ f. All (λ e. e.weight ≡ 1) f.edges) (sym c.of.ensures) (grid_ones c.args.side);
    }
