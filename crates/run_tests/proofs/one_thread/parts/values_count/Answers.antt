use Rattle.std.proofs.Common.{◌∙◌, length, ap, sym}
use Rattle.std.specs.List.{enumerate_from}
use Rattle.std.proofs.lemmas.List.{length-map}
use Rattle.std.proofs.lemmas.List.FromFn.{length-enumerate_from}
use Rattle.pop_model.specs.Stacks.{variables_of}
use Rattle.run_tests.proofs.one_thread.parts.values_count.Goals as goal

pub returns : goal.returns
returns c =
    let over = c.requires.over in
    let cursors = c.args.end.now.cursors in
    let same = length-map (enumerate_from 0 cursors) _ ∙ length-enumerate_from 0 cursors in
    c.count.ensures.count ∙ ap variables_of c.stacks.ensures ∙ over.count ∙ sym same ∙ sym (ap length over.values.are)
