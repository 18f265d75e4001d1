use Rattle.std.proofs.Common.{flat_map}
use Rattle.std.specs.List.{range_with_len}
use Rattle.graph_read.specs.Grids.{AddsEdges, edges_from}
use Rattle.graph_read.proofs.grid.add_row.Given as goal

-- the edges from the first vertices of the row are there
abbrev pub invariant-loop-column : goal.invariant-loop-column
invariant-loop-column l =
    AddsEdges l.fn.graph l.graph (flat_map (edges_from l.side l.row) (range_with_len 1 l.column))
