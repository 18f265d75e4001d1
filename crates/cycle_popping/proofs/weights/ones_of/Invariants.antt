use Rattle.std.proofs.Common.{◌≡◌, map}
use Rattle.std.specs.List.{range_with_len}
use Rattle.cycle_popping.proofs.OneWeights.{slots_at}
use Rattle.cycle_popping.proofs.weights.ones_of.Given as goal

-- the numbers of slots of the variables before here
abbrev pub invariant-loop-v : goal.invariant-loop-v
invariant-loop-v g l =
    l.lengths.items ≡ map (slots_at (g.A.Adjacency.of_graph l.adjacency) l.root) (range_with_len 0 l.v)
