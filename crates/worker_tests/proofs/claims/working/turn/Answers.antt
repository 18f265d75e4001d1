use Rattle.std.proofs.Common.{rules, ◌≡◌, ◌∙◌, ℕ, List, ap, length}
use Rattle.std.specs.List.{range_with_len}
use Rattle.pop_model.specs.Stacks.{variables_of}
use Rattle.pop_model.specs.Popping.{variables}
use Rattle.pop_model.specs.Instances.{Instance}
use Rattle.claim_words.proofs.HeldWhole.{variables-enumerate}
use Rattle.worker_tests.proofs.claims.working.turn.Goals as goal

pub release_below-requires-clause-held : goal.release_below-requires-clause-held
release_below-requires-clause-held g c =
    let all = rw c.in-Some.is at c.claim_all.ensures.held in
    let cs : List ℕ = c.in-Some.cursors in
    let held = all.held in
    let counted = all.count in
    let many : variables_of c.args.instance.now.stacks ≡ c.count-count.result = search rules in
    let long : length cs ≡ c.count-count.result =
    counted ∙ ap (λ (i : Instance). variables_of i.stacks) c.requires.instance ∙ many in
    c.pop_first-popped.ensures.held ∙ ap variables held ∙ variables-enumerate 0 cs ∙ ap (range_with_len 0) long
