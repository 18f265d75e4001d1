use Rattle.std.proofs.Common.{take, All}
use Rattle.pop_model.specs.Instances.{FitsStacks}
use Rattle.pop_instance.proofs.family.fit.Given as goal

-- the events up to here fit
abbrev pub invariant-loop-place : goal.invariant-loop-place
invariant-loop-place l = All (λ r. FitsStacks l.stacks r.1) (take l.place l.events)
