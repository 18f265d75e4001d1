use Rattle.pop_instance.proofs.CycleReturns.{AreSteps}
use Rattle.pop_instance.proofs.cycle.is_cycle.Given as goal

-- the steps before this one led here, and none of them came back to the first variable
abbrev pub invariant-loop-step : goal.invariant-loop-step
invariant-loop-step l = AreSteps l.arrows l.cube l.first l._step l.at
