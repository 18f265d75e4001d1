use Rattle.std.proofs.Common.{inl, inr, ◌+◌, ◌≤◌, ◌^◌, arith, get_or, refl, sum}
use Rattle.std.proofs.lemmas.Bool.{cases_lt, false≢true}
use Rattle.pop_rows.proofs.SumsInPlace.{summed_turn, too_heavy, all_summed}
use Rattle.pop_rows.proofs.prefix_sums.accumulate.Goals as goal

pub loop-x-preserved : goal.loop-x-preserved
loop-x-preserved c =
    summed_turn c.args.row.now c.loop-x.x-index c.loop-x.row c.loop-x.total c.in-Some.sum c.loop-x.invariant
    (omega arith) c.in-Some.ensures.1 (omega (arith, c.in-Some.ensures.0))

pub returns-in_default-clause-light : goal.returns-in_default-clause-light
returns-in_default-clause-light c =
    let passes : 2 ^ 32 ≤ c.loop-x.total + get_or c.loop-x.row c.loop-x.x-index 0 =
    elim (cases_lt (c.loop-x.total + get_or c.loop-x.row c.loop-x.x-index 0) (2 ^ 32)) [
      | inl fits ↦ absurd (c.in_default.ensures fits)
      | inr far ↦ far
    ] in
    let heavy : 2 ^ 32 ≤ sum c.args.row.now =
    too_heavy c.args.row.now c.loop-x.x-index c.loop-x.row c.loop-x.total c.loop-x.invariant (omega arith) passes in
    (λ h. absurd (false≢true h), λ h. absurd (omega arith))

pub returns-clause-sums : goal.returns-clause-sums
returns-clause-sums c =
    (all_summed c.args.row.now c.loop-x.x-index c.loop-x.row c.loop-x.total c.loop-x.invariant (omega arith)).0

pub returns-clause-light : goal.returns-clause-light
returns-clause-light c =
    let all = all_summed c.args.row.now c.loop-x.x-index c.loop-x.row c.loop-x.total c.loop-x.invariant (omega arith) in
    (λ h. all.1, λ h. refl)
