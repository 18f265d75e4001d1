use Rattle.std.proofs.Common.{take}
use Rattle.dimacs_read.specs.Reading.{HoldsArray}
use Rattle.dimacs_read.proofs.literals.cut.Given as goal

-- the numbers up to here are held
abbrev pub invariant-loop-literal : goal.invariant-loop-literal
invariant-loop-literal l = HoldsArray l.clauses (take l.literal-index l.literals)
