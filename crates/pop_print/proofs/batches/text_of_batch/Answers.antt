use Rattle.std.proofs.Common.{length, ◌∙◌, arith}
use Rattle.std.specs.List.{enumerate_from}
use Rattle.std.proofs.lemmas.List.FromFn.{length-enumerate_from}
use Rattle.pop_text.proofs.PrintedMembers.{all_members}
use Rattle.pop_print.specs.Batches.{batch_line, numbered_text}
use Rattle.pop_print.proofs.batches.text_of_batch.Goals as goal

pub returns : goal.returns
returns g c =
    let ends = c.args.ends.now in
    let size = length-enumerate_from 0 ends in
    c.into_bytes.ensures
    ∙ all_members (numbered_text c.args.facts.now c.args.instance.now) (enumerate_from 0 ends) c.loop-from.from
    (batch_line (length ends)) c.loop-from.out (omega (arith, size, c.len-count.ensures, c.loop-from-test.false))
    c.loop-from.invariant.1
