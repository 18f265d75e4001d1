use Rattle.std.proofs.Common.{rules, inl, inr, ◌≡◌, ℕ, ◌+◌, ◌-◌, ◌<◌, ap, arith, get_or, slice_index}
use Rattle.std.proofs.lemmas.Bool.{cases_lt}
use Rattle.std.proofs.lemmas.List.{length-map}
use Rattle.pop_model.specs.Popping.{variables}
use Rattle.pop_model.proofs.Members.{variable_at}
use Rattle.pop_instance.proofs.cube.rises.Goals as goal

pub returns-then-pairs-i : goal.returns-then-pairs-i
returns-then-pairs-i c =
    let pairs = c.args.pairs.now in
    let i = c.loop-i.i in
    let j : ℕ = i - 1 in
    let next : j + 1 ≡ i = omega (arith, c.loop-i.auto.i) in
    let size = length-map pairs (λ (p : ℕ × ℕ). p.0) in (
      λ none. absurd (search rules),
      λ rising.
          let less : slice_index (variables pairs) j < slice_index (variables pairs) (j + 1) =
          rising j (omega (arith, c.loop-i-test.true)) in
          let at = ap (λ k. slice_index (variables pairs) k) next in
          absurd (omega (
            arith,
            at,
            c.if-pairs-i.true,
            variable_at pairs j
                (omega arith),
            variable_at pairs i c.loop-i-test.true,
          )),
    )

pub loop-i-preserved : goal.loop-i-preserved
loop-i-preserved c k h =
    let pairs = c.args.pairs.now in
    let i = c.loop-i.i in
    elim (cases_lt (k + 1) i) [
      | inl before ↦ c.loop-i.invariant k before
      | inr here ↦
          let is : k ≡ i - 1 = omega (arith, c.loop-i.auto.i) in
          let next : k + 1 ≡ i = omega (arith, c.loop-i.auto.i) in
          let at = ap (λ k. slice_index (variables pairs) k) next in
          let before = ap (λ k. (get_or pairs k (0, 0)).0) is in
          omega (
            arith,
            at,
            before,
            c.if-pairs-i.false,
            variable_at pairs k
                (omega (arith, c.loop-i-test.true)),
            variable_at pairs i c.loop-i-test.true,
          )
    ]
