use Rattle.std.proofs.Common.{ℕ, List, [], arith, refl, subst}
use Rattle.std.proofs.lemmas.List.Elements.{All-more}
use Rattle.pop_model.specs.Instances.{FitsStacks}
use Rattle.pop_model.proofs.Members.{all_whole}
use Rattle.pop_instance.proofs.family.fit.Goals as goal

pub loop-place-preserved : goal.loop-place-preserved
loop-place-preserved c =
    let P : ℕ × List (ℕ × ℕ) → Type 0 = λ r. FitsStacks c.args.stacks.now r.1 in
    let here : FitsStacks c.args.stacks.now c.cube.result.now = c.if-not-fits_cube.ensures.0 refl in
    All-more P c.args.events.now c.loop-place.place (0, []) (omega arith) c.loop-place.invariant
    (subst (FitsStacks c.args.stacks.now) c.cube.ensures here)

pub returns : goal.returns
returns c =
    let P : ℕ × List (ℕ × ℕ) → Type 0 = λ r. FitsStacks c.args.stacks.now r.1 in
    (λ yes'. all_whole P c.args.events.now c.loop-place.place (omega arith) c.loop-place.invariant, λ all. refl)
