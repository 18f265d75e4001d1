use Rattle.std.proofs.Common.{◌<◌, All, IfSome, take}
use Rattle.pop_instance.proofs.arrows.are_below.Given as goal

-- each head up to here is the root or below the count
abbrev pub invariant-loop-head : goal.invariant-loop-head
invariant-loop-head l = All (λ head. IfSome head (λ w. w < l.count)) (take l.head-index l.row)
