use Rattle.std.proofs.Common.{◌≡◌, ◌∙◌, ap, length, List, ℕ}
use Rattle.std.specs.List.{range_with_len}
use Rattle.pop_model.specs.Stacks.{variables_of}
use Rattle.pop_model.specs.Popping.{variables}
use Rattle.pop_model.specs.Instances.{Instance}
use Rattle.claim_words.proofs.HeldWhole.{variables-enumerate}
use Rattle.worker_tests.proofs.claims.one_pop.pop_on.Goals as goal

-- both variables are held, and no other
pub let_go-requires-clause-held : goal.let_go-requires-clause-held
let_go-requires-clause-held g c =
    let all = c.claim_both-cursors.ensures.held in
    let cs : List ℕ = c.claim_both-cursors.result in
    let long : length cs ≡ 2 =
    all.count ∙ ap (λ (x : Instance). variables_of x.stacks) c.requires.instance ∙ c.requires.count in
    c.pop_first.ensures.held ∙ ap variables all.held ∙ variables-enumerate 0 cs ∙ ap (range_with_len 0) long
