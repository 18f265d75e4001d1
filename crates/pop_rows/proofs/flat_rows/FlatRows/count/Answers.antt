use Rattle.std.proofs.Common.{sym, ap, ◌∙◌, length, subst}
use Rattle.pop_rows.specs.FlatRows.{AreRoomy}
use Rattle.pop_rows.proofs.PushedRows.{length-rows_in, rows_are_roomy}
use Rattle.pop_rows.proofs.flat_rows.FlatRows.count.Goals as goal

pub returns-clause-count : goal.returns-clause-count
returns-clause-count c =
    let inside = c.self.inside in
    c.len.ensures ∙ inside.ends.ok.0
    ∙ sym (length-rows_in inside.starts.items inside.ends.items inside.items.items c.self.invariant)
    ∙ ap (λ f. length f.rows) c.self.view_is

pub returns-clause-roomy : goal.returns-clause-roomy
returns-clause-roomy c =
    let inside = c.self.inside in
    subst AreRoomy c.self.view_is
    (rows_are_roomy inside.starts.items inside.ends.items inside.items.items c.self.invariant)
