use Rattle.std.proofs.Common.{ap}
use Rattle.pop_edge.proofs.Cutting.{cuts}
use Rattle.pop_edge.proofs.splitter.Splitter.cut.Goals as goal

pub returns-in-Some-clause-cuts : goal.returns-in-Some-clause-cuts
returns-in-Some-clause-cuts c =
    let s = c.give.ensures in
    let r = cuts _ _ _ _ _ _ _ _ _ _ _ c.in-Some.count c.in_ok-count.field-0 c.in-Some.is c.in_ok-count.ensures.moved
    c.deref.ensures.value c.requires.begun s.line s.begun (ap (λ v. v.items) s.piece.0) s.piece.1 s.piece.2 in
    (r.0, r.1, s.number)
