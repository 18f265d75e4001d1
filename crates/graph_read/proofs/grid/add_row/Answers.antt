use Rattle.std.proofs.Common.{◌+◌, List, length, flat_map, arith, ap, length-append, subst, sym}
use Rattle.std.specs.List.{range_with_len}
use Rattle.graph_read.specs.declared.edge.Edge.{Edge}
use Rattle.graph_read.specs.Graphs.{GraphOf}
use Rattle.graph_read.specs.Grids.{AddsEdges, edges_from}
use Rattle.graph_read.proofs.GridPlaces.{adds_on, flat_map_more, row_few}
use Rattle.graph_read.proofs.grid.add_row.Goals as goal

pub add_edges_from-requires-clause-few : goal.add_edges_from-requires-clause-few
add_edges_from-requires-clause-few c =
    let row : List Edge =
    flat_map (edges_from c.args.side c.args.row) (range_with_len 1 c.loop-column.column) in
    omega (
      arith,
      ap (λ (g : GraphOf). length g.edges) c.loop-column.invariant,
      length-append c.args.graph.now.edges row,
      row_few c.args.side c.args.row c.loop-column.column,
      c.requires.few,
    )

pub loop-column-preserved : goal.loop-column-preserved
loop-column-preserved c =
    let row : List Edge =
    flat_map (edges_from c.args.side c.args.row) (range_with_len 1 c.loop-column.column) in
    subst (AddsEdges c.args.graph.now c.add_edges_from.new.graph)
    (sym (flat_map_more (edges_from c.args.side c.args.row) c.loop-column.column))
    (adds_on c.args.graph.now c.loop-column.graph c.add_edges_from.new.graph row
    (edges_from c.args.side c.args.row (c.loop-column.column + 1)) c.loop-column.invariant
    c.in_ok-add_edges_from.ensures)
