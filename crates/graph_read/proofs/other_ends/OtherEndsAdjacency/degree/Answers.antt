use Rattle.std.proofs.Common.{ℕ, length, ap, ◌∙◌, arith}
use Rattle.std.proofs.lemmas.List.{length-map}
use Rattle.graph_read.specs.Graphs.{edge_at}
use Rattle.graph_read.specs.Incidence.{edges_at, other_end}
use Rattle.graph_read.proofs.KnownEdges.{edges_few}
use Rattle.graph_read.proofs.other_ends.OtherEndsAdjacency.degree.Goals as goal

pub overflow_cast-result : goal.overflow_cast-result
overflow_cast-result c =
    let g = c.args.self.now in
    let other : ℕ → ℕ = λ i. other_end (edge_at g i) c.args.vertex in
    omega (
      arith,
      ap length c.at.ensures,
      length-map (edges_at g c.args.vertex) other,
      edges_few c.args.self.now c.args.vertex,
      c.edges-edges.ensures.graph.edges_fit,
      ap (λ g. length g.edges) c.self.view_is,
    )

pub returns : goal.returns
returns c =
    let g = c.args.self.now in
    let other : ℕ → ℕ = λ i. other_end (edge_at g i) c.args.vertex in
    ap length c.at.ensures ∙ length-map (edges_at g c.args.vertex) other
