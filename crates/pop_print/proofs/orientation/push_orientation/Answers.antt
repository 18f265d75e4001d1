use Rattle.std.proofs.Common.{◌+◌, ◌++◌, ap, ◌∙◌, arith}
use Rattle.std.specs.List.{enumerate_from}
use Rattle.std.proofs.lemmas.List.FromFn.{length-enumerate_from}
use Rattle.pop_print.specs.Output.{edge_line, oriented_line}
use Rattle.pop_text.proofs.PrintedMembers.{member_more, all_members}
use Rattle.pop_print.proofs.OutputLemmas.{numbered_at}
use Rattle.pop_print.proofs.orientation.push_orientation.Goals as goal

pub loop-i-preserved : goal.loop-i-preserved
loop-i-preserved c =
    let edges = c.args.graph.now.edges in
    let i = c.loop-i.i in
    let size = length-enumerate_from 0 edges in
    member_more (edge_line c.args.values.now) (enumerate_from 0 edges) i (i, c.edge.result)
    c.args.out.now c.loop-i.out c.push_oriented.new.out (omega arith)
    (numbered_at edges i c.edge.result (omega arith) c.edge.ensures.edge) c.loop-i.invariant
    (c.in_ok-push_oriented.ensures ∙ ap (λ x. c.loop-i.out ++ oriented_line c.edge.result (i + 1) x) c.get.ensures)

pub returns : goal.returns
returns c =
    let edges = c.args.graph.now.edges in
    let size = length-enumerate_from 0 edges in
    all_members (edge_line c.args.values.now) (enumerate_from 0 edges) c.loop-i.i c.args.out.now
    c.loop-i.out (omega arith) c.loop-i.invariant
