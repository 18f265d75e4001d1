use Rattle.std.proofs.Common.{◌≡◌, ◌+◌, ◌-◌, ◌*◌, ◌++◌, length, arith, ap, ◌∙◌, sym}
use Rattle.graph_read.specs.Graphs.{GraphOf}
use Rattle.graph_read.specs.Grids.{row_edges}
use Rattle.graph_read.proofs.GridPlaces.{flat_map_more, rows_few}
use Rattle.graph_read.proofs.graph.Graph.grid.Goals as goal

pub add_row-requires-clause-few : goal.add_row-requires-clause-few
add_row-requires-clause-few c =
    let row : c.loop-row.row + 1 - 1 ≡ c.loop-row.row = omega arith in
    omega (
      arith,
      ap (λ (g : GraphOf). length g.edges) c.loop-row.invariant,
      rows_few c.args.side c.loop-row.row,
      ap (λ r. r * c.args.side) row,
    )

pub loop-row-preserved : goal.loop-row-preserved
loop-row-preserved c =
    c.in_ok-add_row.ensures
    ∙ ap (λ (g : GraphOf).
    let f : GraphOf =
    record { vertices = g.vertices; edges = g.edges ++ row_edges c.args.side (c.loop-row.row + 1) } in f)
    c.loop-row.invariant
    ∙ ap (λ es. let f : GraphOf = record { vertices = c.args.side * c.args.side; edges = es } in f)
    (sym (flat_map_more (row_edges c.args.side) c.loop-row.row))
