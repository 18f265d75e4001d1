use Rattle.std.proofs.Common.{◌≡◌, map, take}
use Rattle.dimacs_read.specs.Falsifying.{falsifier}
use Rattle.dimacs_read.proofs.events.pairs_of.Given as goal

-- the literals up to here have their falsifiers
abbrev pub invariant-loop-literal : goal.invariant-loop-literal
invariant-loop-literal l = l.pairs.items ≡ map falsifier (take l.literal-index l.literals)
