use Rattle.std.proofs.Common.{◌≡◌, ◌<◌, ℕ, Option, Some, None, true, eqb, length, sym, ap, ◌∙◌, arith, eqb-true, eq-eqb}
use Rattle.std.specs.Option.{option_eq}
use Rattle.std.proofs.lemmas.Option.{none-some, same_Some}
use Rattle.pop_model.proofs.Members.{first_read}
use Rattle.pop_instance.proofs.CycleReturns.{no_step, comes_early, step_more, comes_back, must_come_back}
use Rattle.pop_instance.proofs.cycle.is_cycle.Goals as goal

-- what the test against a variable tells
equals_some : (o : Option ℕ) (v : ℕ)
    → (option_eq eqb o (Some v) ≡ true → o ≡ Some v) × (o ≡ Some v → option_eq eqb o (Some v) ≡ true)
equals_some None v = (λ is. cc, λ is. absurd (none-some v is))
equals_some (Some w) v = (λ is. ap (λ (u : ℕ). Some u) (eqb-true w v is), λ is. eq-eqb w v (same_Some w v is))

pub returns-in_default : goal.returns-in_default
returns-in_default c = (
  λ yes'. cc,
  λ is.
      let heads = c.args.arrows.now in
      let e = c.args.cube.now in
      let back = sym c.arrow_in.ensures ∙ c.in-Some.is ∙ ap (λ (v : ℕ). Some v) c.if-head-first.false in
      absurd (comes_early heads e c.pair-first.result.0 c.loop-step._step c.loop-step.at
      c.len-count.ensures.cube (first_read e c.pair-first.result c.pair-first.ensures) (omega arith)
      c.loop-step.invariant (omega (arith, c.len-count.ensures.len)) back is),
)

pub returns-in_default-2 : goal.returns-in_default-2
returns-in_default-2 c = (
  λ yes'. cc,
  λ is.
      let heads = c.args.arrows.now in
      let e = c.args.cube.now in
      absurd (no_step heads e c.pair-first.result.0 c.loop-step._step c.loop-step.at c.len-count.ensures.cube
      (first_read e c.pair-first.result c.pair-first.ensures) (omega arith) c.loop-step.invariant
      (omega (arith, c.len-count.ensures.len)) (sym c.arrow_in.ensures ∙ c.in_default.is) is),
)

pub loop-step-preserved : goal.loop-step-preserved
loop-step-preserved c =
    let heads = c.args.arrows.now in
    let e = c.args.cube.now in
    step_more heads e c.pair-first.result.0 c.loop-step._step c.loop-step.at c.len-count.ensures.cube
    (first_read e c.pair-first.result c.pair-first.ensures) (omega arith) c.loop-step.invariant c.in-Some.head
    (sym c.arrow_in.ensures ∙ c.in-Some.is) c.if-head-first.true

pub returns : goal.returns
returns c =
    let heads = c.args.arrows.now in
    let e = c.args.cube.now in
    let first : ℕ = c.pair-first.result.0 in
    let n : ℕ = c.loop-step._step in
    let cube = c.len-count.ensures.cube in
    let some = cube.some in
    let first_is = first_read e c.pair-first.result c.pair-first.ensures in
    let positive : 0 < n = omega arith in
    let whole : length e ≡ n = omega (arith, c.len-count.ensures.len, some) in
    let equal = equals_some c.arrow_in-2.result first in (
      λ is. comes_back heads e first n c.loop-step.at cube first_is positive c.loop-step.invariant whole
          (sym c.arrow_in-2.ensures ∙ equal.0 (sym c.eq.ensures ∙ is)),
      λ is. c.eq.ensures ∙ equal.1 (c.arrow_in-2.ensures
          ∙ must_come_back heads e first n c.loop-step.at cube first_is positive c.loop-step.invariant whole is),
    )
