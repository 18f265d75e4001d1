use Rattle.std.proofs.Common.{◌≡◌, All, take}
use Rattle.cycle_popping.proofs.weights.all_weigh_one.Given as goal

-- each edge before here has
abbrev pub invariant-loop-i : goal.invariant-loop-i
invariant-loop-i l = All (λ e. e.weight ≡ 1) (take l.i l.graph.edges)
