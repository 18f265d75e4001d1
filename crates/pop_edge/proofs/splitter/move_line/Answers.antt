use Rattle.std.proofs.Common.{◌∙◌}
use Rattle.pop_edge.proofs.Cutting.{moves_some, moves_none}
use Rattle.pop_edge.proofs.splitter.move_line.Goals as goal

pub returns-in_ok-extend_from_slice-in-Some-clause-moved : goal.returns-in_ok-extend_from_slice-in-Some-clause-moved
returns-in_ok-extend_from_slice-in-Some-clause-moved c =
    let m = moves_some c.args.begun.now.items c.args.bytes.now c.in-Some.at c.in-Some.ensures in
    (m.0, m.1, m.2, m.3, m.4, c.in_ok-extend_from_slice-in-Some.ensures.items ∙ m.5)

pub returns-in_ok-extend_from_slice-in-None-clause-moved : goal.returns-in_ok-extend_from_slice-in-None-clause-moved
returns-in_ok-extend_from_slice-in-None-clause-moved c =
    let m = moves_none c.args.begun.now.items c.args.bytes.now c.in-None.ensures in
    (m.0, c.in_ok-extend_from_slice-in-None.ensures.items)
