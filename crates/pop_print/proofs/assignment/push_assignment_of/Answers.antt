use Rattle.std.proofs.Common.{refl, slice_index, arith}
use Rattle.pop_print.proofs.OutputLemmas.{literal_more, assignment_told}
use Rattle.pop_print.proofs.assignment.push_assignment_of.Goals as goal

pub loop-v-preserved : goal.loop-v-preserved
loop-v-preserved c =
    literal_more c.args.values.now c.loop-v.v (slice_index c.args.values.now c.loop-v.v) c.args.out.now c.loop-v.out
    c.push_literal.new.out
    (omega arith) refl c.loop-v.invariant c.in_ok-push_literal.ensures

pub returns : goal.returns
returns c =
    assignment_told c.push-2.result c.args.values.now c.loop-v.v c.args.out.now c.loop-v.out c.push-2.new.self
    (omega arith) c.loop-v.invariant c.push-2.ensures
