use Rattle.std.proofs.Common.{sym, ap, subst, ◌∙◌}
use Rattle.graph_read.specs.Graphs.{IsVertex}
use Rattle.graph_read.specs.Incidence.{at_vertex, dart_at, darts_at}
use Rattle.graph_read.proofs.IncidenceLemmas.{at_vertex-rows_by, has_row}
use Rattle.graph_read.proofs.incidence.Incidence.at.Goals as goal

pub row-requires : goal.row-requires
row-requires c =
    has_row dart_at c.args.self.now c.self.inside.graph.now c.self.inside.rows.rows c.args.vertex c.self.invariant
    c.self.view_is c.requires

pub returns : goal.returns
returns c =
    let g = c.self.inside.graph.now in
    let w = c.args.vertex in
    c.row.ensures ∙ ap (λ rows. at_vertex rows w) c.self.invariant
    ∙ at_vertex-rows_by dart_at g w (subst (λ g. IsVertex g.vertices w) (sym c.self.view_is) c.requires)
    ∙ ap (λ g. darts_at g w) c.self.view_is
