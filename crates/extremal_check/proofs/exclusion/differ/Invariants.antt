use Rattle.std.proofs.Common.{All, take}
use Rattle.extremal_check.specs.Clashes.{DemandsOther}
use Rattle.extremal_check.proofs.exclusion.differ.Given as goal

-- of no pair up to here the other cube demands another value
abbrev pub invariant-loop-i : goal.invariant-loop-i
invariant-loop-i l = All (λ p. DemandsOther l.other p → ⊥) (take l.i l.cube)
