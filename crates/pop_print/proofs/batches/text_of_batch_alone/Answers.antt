use Rattle.std.proofs.Common.{length, sym, ◌∙◌, arith}
use Rattle.std.specs.List.{enumerate_from}
use Rattle.std.proofs.lemmas.Option.{get_or_from_slice_get}
use Rattle.std.proofs.lemmas.List.FromFn.{length-enumerate_from}
use Rattle.pop_print.specs.Batches.{batch_line, numbered_text}
use Rattle.pop_text.proofs.PrintedMembers.{member_more, all_members}
use Rattle.pop_print.proofs.OutputLemmas.{numbered_at}
use Rattle.pop_print.proofs.batches.text_of_batch_alone.Goals as goal

pub push_numbered-requires-clause-end : goal.push_numbered-requires-clause-end
push_numbered-requires-clause-end c = c.requires.ends.1.each c.loop-j.j c.at.result.now c.at.ensures

pub loop-j-preserved : goal.loop-j-preserved
loop-j-preserved c =
    let ends = c.args.ends.now in
    let j = c.loop-j.j in
    let end = c.at.result.now in
    let size = length-enumerate_from 0 ends in
    member_more (numbered_text c.args.facts.now c.args.instance.now) (enumerate_from 0 ends) j (j, end)
    (batch_line (length ends)) c.loop-j.out c.push_numbered.new.out (omega arith)
    (numbered_at ends j end (omega arith) (sym (get_or_from_slice_get ends j end end c.at.ensures)))
    c.loop-j.invariant c.in_ok-push_numbered.ensures

pub returns : goal.returns
returns c =
    let ends = c.args.ends.now in
    let size = length-enumerate_from 0 ends in
    c.into_bytes.ensures
    ∙ all_members (numbered_text c.args.facts.now c.args.instance.now) (enumerate_from 0 ends) c.loop-j.j
    (batch_line (length ends)) c.loop-j.out (omega arith) c.loop-j.invariant
