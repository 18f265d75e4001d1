use Rattle.std.proofs.Common.{not, position, sym, ap, ◌∙◌}
use Rattle.graph_read.proofs.ReachedVertices.{least_unmet, none_unmet}
use Rattle.graph_read.proofs.other_ends.OtherEnds.first_cut_off.Goals as goal

pub returns-in-None : goal.returns-in-None
returns-in-None c =
    none_unmet c.args.self.now c.args.root c.in_ok-met.met.items c.in_ok-met.ensures
    (sym (c.first_unmet.ensures ∙ ap (position not) c.deref.ensures.value) ∙ c.in-None.is)

pub returns : goal.returns
returns c =
    least_unmet c.args.self.now c.args.root c.in-Some.place c.in_ok-met.met.items c.in_ok-met.ensures
    (sym (c.first_unmet.ensures ∙ ap (position not) c.deref.ensures.value) ∙ c.in-Some.is)
