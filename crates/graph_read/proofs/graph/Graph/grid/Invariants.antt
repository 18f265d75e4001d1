use Rattle.std.proofs.Common.{◌≡◌, ◌*◌, flat_map}
use Rattle.std.specs.List.{range_with_len}
use Rattle.graph_read.specs.Grids.{row_edges}
use Rattle.graph_read.proofs.graph.Graph.grid.Given as goal

-- the edges from the vertices of the first rows are there
abbrev pub invariant-loop-row : goal.invariant-loop-row
invariant-loop-row l =
    l.graph
    ≡ record { vertices = l.side * l.side; edges = flat_map (row_edges l.side) (range_with_len 1 l.row) }
