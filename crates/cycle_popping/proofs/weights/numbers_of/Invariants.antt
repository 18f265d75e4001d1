use Rattle.std.proofs.Common.{◌≡◌, map}
use Rattle.std.specs.List.{range_with_len}
use Rattle.cycle_popping.specs.Trees.{weights_at}
use Rattle.cycle_popping.proofs.weights.numbers_of.Given as goal

-- the rows of the variables before here
abbrev pub invariant-loop-v : goal.invariant-loop-v
invariant-loop-v l = l.rows ≡ map (weights_at l.ends l.root) (range_with_len 0 l.v)
