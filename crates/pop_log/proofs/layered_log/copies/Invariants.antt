use Rattle.std.proofs.Common.{◌≡◌, take, map}
use Rattle.pop_log.proofs.layered_log.copies.Given as goal

-- the records up to here are copied
abbrev pub invariant-loop-i : goal.invariant-loop-i
invariant-loop-i l = l.records.items ≡ map (λ p. p.popped.now) (take l.i l.placed)
