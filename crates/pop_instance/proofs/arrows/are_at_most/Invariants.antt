use Rattle.std.proofs.Common.{◌≤◌, All, take}
use Rattle.pop_instance.proofs.arrows.are_at_most.Given as goal

-- no number up to here is greater than the count
abbrev pub invariant-loop-x : goal.invariant-loop-x
invariant-loop-x l = All (λ x. x ≤ l.count) (take l.x-index l.row)
