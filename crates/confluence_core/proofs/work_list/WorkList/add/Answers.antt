use Rattle.std.proofs.Common.{◌≡◌, arith, ap, length}
use Rattle.confluence_core.specs.WorkList.{Waiting}
use Rattle.confluence_core.proofs.Marks.{marked_more}
use Rattle.confluence_core.proofs.work_list.WorkList.add.Goals as goal

pub invariant_of-self-2 : goal.invariant_of-self-2
invariant_of-self-2 c =
    let units : length c.self.inside.marks.items ≡ c.args.self.now.units =
    ap (λ (w : Waiting). w.units) c.self.view_is in
    rw c.in_ok-push.ensures.items (marked_more c.self.inside.waiting.items c.self.inside.marks.items c.args.unit
    (omega (arith, c.requires, units)) c.self.invariant)
