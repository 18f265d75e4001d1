use Rattle.std.proofs.Common.{◌≡◌, ◌++◌, ℕ, ap, sym, ◌∙◌}
use Rattle.std.specs.List.{enumerate_from}
use Rattle.std.proofs.lemmas.Option.{get_or_from_slice_get}
use Rattle.confluence_core.specs.declared.end.End.{End}
use Rattle.pop_print.specs.Batches.{numbered_text}
use Rattle.pop_print.proofs.OutputLemmas.{numbered_at}
use Rattle.pop_print.proofs.batches.numbered.Goals as goal

pub push_numbered-requires-clause-end : goal.push_numbered-requires-clause-end
push_numbered-requires-clause-end c = c.requires.ends.1.each c.args.j c.at.result.now c.at.ensures

pub returns : goal.returns
returns c p is =
    let ends = c.args.ends.now in
    let j = c.args.j in
    let end : End = c.at.result.now in
    let pair : ℕ × End = (j, end) in
    let print : ℕ × End → _ = numbered_text c.args.facts.now c.args.instance.now in
    let same : pair ≡ p =
    sym (numbered_at ends j end c.requires.known (sym (get_or_from_slice_get ends j end end c.at.ensures)))
    ∙ get_or_from_slice_get (enumerate_from 0 ends) j p pair is in
    c.into_bytes.ensures ∙ c.in_ok-push_numbered.ensures ∙ ap (λ o. o ++ print pair) c.in_ok-out.ensures
    ∙ ap print same
