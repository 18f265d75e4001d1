use Rattle.std.proofs.Common.{arith, below_more}
use Rattle.extremal_check.proofs.RightVerdict.{least_pair, none_at_all}
use Rattle.extremal_check.proofs.least_clash.first_clash.Goals as goal

pub returns-in-Some-clause-found : goal.returns-in-Some-clause-found
returns-in-Some-clause-found c =
    least_pair c.args.events.now c.loop-i.i c.in-Some.j c.loop-i.invariant.none c.in-Some.ensures.found

pub loop-i-preserved : goal.loop-i-preserved
loop-i-preserved c = record {
  stamped = c.first_with.ensures.stamped;
  none = below_more _ _ c.loop-i.invariant.none c.in_default.ensures.none;
}

pub returns-clause-none : goal.returns-clause-none
returns-clause-none c =
    none_at_all c.args.events.now c.loop-i.i c.loop-i.invariant.none (omega (arith, c.count-i-end.ensures.count))
