use Rattle.std.proofs.Common.{◌≡◌, ◌<◌, length, get_or, ap, subst, arith}
use Rattle.graph_read.specs.Graphs.{IsGraph}
use Rattle.graph_read.specs.Incidence.{edges_at, neighbours_of}
use Rattle.graph_read.proofs.VisitedEdges.{neighbour_vertex}
use Rattle.std.proofs.lemmas.List.{length-map}
use Rattle.array_calls.proofs.rows.parent_of.Goals as goal

pub overflow_sub-result : goal.overflow_sub-result
overflow_sub-result c =
    let g = c.args.ends.now in
    let w = c.args.vertex in
    let slot = c.get-slot.result in
    let has = c.requires.slots.each w c.requires.vertex c.if-vertex-root.false in
    let is : c.get-slot.result ≡ get_or c.args.slots.now c.variable_of.result 0 = c.get-slot.ensures in
    let at = ap (λ v. get_or c.args.slots.now v 0) c.variable_of.ensures in
    let list : c.at.result.now ≡ neighbours_of g w = c.at.ensures in
    let within : slot < length (neighbours_of g w) =
    omega (arith, has, is, at, length-map (edges_at g w) (λ i. Rattle.graph_read.specs.Incidence.other_end (Rattle.graph_read.specs.Graphs.edge_at g i) w)) in
    let met = neighbour_vertex g w slot (subst IsGraph c.graph.ensures c.edges-edges.ensures.graph) within in
    let first = met.first in
    omega (arith, first, ap (λ xs. get_or xs slot 0) list)
