use Rattle.std.proofs.Common.{◌≡◌, take}
use Rattle.pop_instance.specs.Digests.{digest}
use Rattle.pop_instance.proofs.cube.digest_of.Given as goal

-- the digest of the pairs up to here
abbrev pub invariant-loop-v : goal.invariant-loop-v
invariant-loop-v l = l.digest ≡ digest (take l.v-index l.pairs)
