use Rattle.std.proofs.Common.{◌<◌, ℕ, IfSome, None, Option, refl}
use Rattle.std.proofs.lemmas.List.Elements.{All-more}
use Rattle.pop_model.proofs.Members.{all_whole}
use Rattle.pop_instance.proofs.arrows.are_below.Goals as goal

pub loop-head-preserved : goal.loop-head-preserved
loop-head-preserved c =
    let Below : Option ℕ → Type 0 = λ head. IfSome head (λ w. w < c.args.count) in
    All-more Below c.args.row.now c.loop-head.head-index None c.loop-head-test.true c.loop-head.invariant
    (c.if-not-is_below.ensures.0 refl)

pub returns-then-not-is_below : goal.returns-then-not-is_below
returns-then-not-is_below c =
    (λ yes'. cc, λ all. c.if-not-is_below.ensures.1 (all c.loop-head.head-index None c.loop-head-test.true))

pub returns : goal.returns
returns c =
    let Below : Option ℕ → Type 0 = λ head. IfSome head (λ w. w < c.args.count) in
    (λ yes'. all_whole Below c.args.row.now c.loop-head.head-index c.loop-head-test.false c.loop-head.invariant, λ all. refl)
