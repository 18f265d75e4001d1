use Rattle.std.proofs.Common.{◌<◌, sym, ap, subst, ◌∙◌, All}
use Rattle.confluence_core.specs.WorkList.{Waiting}
use Rattle.confluence_core.proofs.work_list.WorkList.of.Goals as goal

pub add_all-requires : goal.add_all-requires
add_all-requires c = record {
  known = subst (λ (w : Waiting). All (λ u. u < w.units) c.args.waiting.now) (sym c.in_ok-work.ensures)
      c.requires.known;
}

pub returns-clause-units : goal.returns-clause-units
returns-clause-units c = c.in_ok-add_all.ensures.units ∙ ap (λ (w : Waiting). w.units) c.in_ok-work.ensures
