use Rattle.std.proofs.Common.{arith}
use Rattle.std.proofs.lemmas.Option.{get_or_from_slice_get}
use Rattle.pop_model.specs.Families.{Event}
use Rattle.pop_instance.specs.Family.{family_of}
use Rattle.confluence_core.specs.Stuck.{event_of}
use Rattle.pop_print.specs.Output.{stuck_line}
use Rattle.pop_text.proofs.PrintedMembers.{member_more, all_members}
use Rattle.pop_print.proofs.stuck.push_stuck.Goals as goal

pub loop-i-preserved : goal.loop-i-preserved
loop-i-preserved c =
    let e : Event = event_of (c.at-unit.result.0, c.at-unit.result.1.now) in
    member_more (stuck_line c.args.facts.now (family_of c.args.family.now)) c.args.stuck.now c.loop-i.i e c.args.out.now
    c.loop-i.out c.push_event.new.out (omega arith)
    (get_or_from_slice_get c.args.stuck.now c.loop-i.i e e c.at-unit.ensures) c.loop-i.invariant
    c.in_ok-push_event.ensures

pub returns : goal.returns
returns c =
    all_members (stuck_line c.args.facts.now (family_of c.args.family.now)) c.args.stuck.now c.loop-i.i c.args.out.now
    c.loop-i.out (omega arith) c.loop-i.invariant
