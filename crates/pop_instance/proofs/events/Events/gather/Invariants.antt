use Rattle.std.proofs.Common.{All, take}
use Rattle.pop_model.specs.Popping.{IsCube}
use Rattle.pop_instance.proofs.events.Events.gather.Given as goal

-- the rows up to here have cubes
abbrev pub invariant-loop-cube : goal.invariant-loop-cube
invariant-loop-cube l = All (λ r. IsCube r.1) (take l.cube-index l.cube-items)
