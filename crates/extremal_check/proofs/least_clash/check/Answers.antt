use Rattle.std.proofs.Common.{refl}
use Rattle.extremal_check.proofs.RightVerdict.{extremal_if_none, not_extremal, least_numbers}
use Rattle.extremal_check.proofs.least_clash.check.Goals as goal

pub returns-in-None-clause-verdict : goal.returns-in-None-clause-verdict
returns-in-None-clause-verdict c = extremal_if_none c.args.events.now c.in-None.ensures.none

pub returns-in-None-clause-extremal : goal.returns-in-None-clause-extremal
returns-in-None-clause-extremal c =
    (λ same. extremal_if_none c.args.events.now c.in-None.ensures.none, λ extremal. refl)

pub returns-clause-verdict : goal.returns-clause-verdict
returns-clause-verdict c =
    rw (c.number.ensures, c.number-in-Some.ensures)
    (least_numbers c.args.events.now c.count.ensures.events c.in-Some.i c.in-Some.j c.in-Some.ensures.found)

pub returns-clause-extremal : goal.returns-clause-extremal
returns-clause-extremal c = (
  λ same. cc,
  λ extremal. absurd (not_extremal c.args.events.now c.in-Some.i c.in-Some.j c.in-Some.ensures.found.holds extremal),
)
