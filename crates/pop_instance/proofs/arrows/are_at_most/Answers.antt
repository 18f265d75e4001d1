use Rattle.std.proofs.Common.{◌≤◌, ℕ, arith, refl}
use Rattle.std.proofs.lemmas.List.Elements.{All-more}
use Rattle.pop_model.proofs.Members.{all_whole}
use Rattle.pop_instance.proofs.arrows.are_at_most.Goals as goal

pub loop-x-preserved : goal.loop-x-preserved
loop-x-preserved c =
    let Low : ℕ → Type 0 = λ x. x ≤ c.args.count in
    All-more Low c.args.row.now c.loop-x.x-index 0 c.loop-x-test.true c.loop-x.invariant (omega arith)

pub returns : goal.returns
returns c =
    let Low : ℕ → Type 0 = λ x. x ≤ c.args.count in
    (λ yes'. all_whole Low c.args.row.now c.loop-x.x-index c.loop-x-test.false c.loop-x.invariant, λ all. refl)
