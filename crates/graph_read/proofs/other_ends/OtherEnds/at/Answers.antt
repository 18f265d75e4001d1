use Rattle.std.proofs.Common.{sym, ap, subst, ◌∙◌}
use Rattle.graph_read.specs.declared.put.Put.TheVariants.{OtherEnd}
use Rattle.graph_read.specs.Graphs.{IsVertex}
use Rattle.graph_read.specs.Incidence.{neighbours_of, at_vertex, put_of}
use Rattle.graph_read.proofs.IncidenceLemmas.{at_vertex-rows_by, has_row}
use Rattle.graph_read.proofs.other_ends.OtherEnds.at.Goals as goal

pub row-requires : goal.row-requires
row-requires c =
    has_row (put_of OtherEnd) c.args.self.now c.self.inside.graph.now c.self.inside.rows.rows c.args.vertex c.self.invariant
    c.self.view_is c.requires

pub returns : goal.returns
returns c =
    let g = c.self.inside.graph.now in
    let w = c.args.vertex in
    c.row.ensures ∙ ap (λ rows. at_vertex rows w) c.self.invariant
    ∙ at_vertex-rows_by (put_of OtherEnd) g w (subst (λ g. IsVertex g.vertices w) (sym c.self.view_is) c.requires)
    ∙ ap (λ g. neighbours_of g w) c.self.view_is
