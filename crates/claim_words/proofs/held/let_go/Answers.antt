use Rattle.std.proofs.Common.{arith, sym, ◌∙◌, ◌≤◌}
use Rattle.std.proofs.lemmas.List.{get_or_default}
use Rattle.claim_words.proofs.HeldLemmas.{removed, behind}
use Rattle.claim_words.proofs.held.let_go.Goals as goal

pub overflow_sub-at-in-loop-at : goal.overflow_sub-at-in-loop-at
overflow_sub-at-in-loop-at c =
    let items = c.args.held.now.items in
    let i = c.loop-at.invariant in
    behind c.args.v items c.loop-at.at c.requires.there i.1
    (λ is. c.loop-at-test.true (c.index.ensures ∙ get_or_default items c.loop-at.at c.index.result.now 0 i.0 ∙ is))

pub loop-at-smaller : goal.loop-at-smaller
loop-at-smaller c =
    let items = c.args.held.now.items in
    let i = c.loop-at.invariant in
    let some : 1 ≤ c.loop-at.at = behind c.args.v items c.loop-at.at c.requires.there i.1
    (λ is. c.loop-at-test.true (c.index.ensures ∙ get_or_default items c.loop-at.at c.index.result.now 0 i.0 ∙ is)) in
    omega arith

pub returns-clause-items : goal.returns-clause-items
returns-clause-items c =
    let items = c.args.held.now.items in
    let i = c.loop-at.invariant in
    c.remove.ensures.items
    ∙ removed c.args.v items c.loop-at.at c.index.result.now c.requires.there
    (sym c.index.ensures ∙ c.loop-at-test.false) i.0
