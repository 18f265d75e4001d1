use Rattle.std.proofs.Common.{◌≡◌, map, take}
use Rattle.pop_instance.specs.Digests.{digest}
use Rattle.pop_instance.proofs.events.digests_of.Given as goal

-- the digests of the rows up to here
abbrev pub invariant-loop-cube : goal.invariant-loop-cube
invariant-loop-cube l = l.digests.items ≡ map (λ r. digest r.1) (take l.cube-index l.rows)
