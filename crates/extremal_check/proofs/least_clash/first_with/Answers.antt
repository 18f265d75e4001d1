use Rattle.std.proofs.Common.{arith}
use Rattle.extremal_check.proofs.least_clash.first_with.Goals as goal

pub returns-then-least-count-clause-found : goal.returns-then-least-count-clause-found
returns-then-least-count-clause-found c = record {
  holds = c.least_with-least.ensures.tried.clash (omega (arith, c.count-count.ensures.count));
  none_before = λ j before clash. let le = c.least_with-least.ensures.none_below j clash in omega (arith, le, before);
}

pub returns-else-least-count-clause-none : goal.returns-else-least-count-clause-none
returns-else-least-count-clause-none c = λ j clash.
    let le = c.least_with-least.ensures.none_below j clash in
    let below = clash.within in
    omega (arith, le, below, c.count-count.ensures.count)
