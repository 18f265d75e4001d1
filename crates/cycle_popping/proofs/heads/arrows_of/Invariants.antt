use Rattle.std.proofs.Common.{◌≡◌, map}
use Rattle.std.specs.List.{range_with_len}
use Rattle.cycle_popping.specs.Numbers.{numbers_at}
use Rattle.cycle_popping.proofs.heads.arrows_of.Given as goal

-- the rows of the variables before here
abbrev pub invariant-loop-v : goal.invariant-loop-v
invariant-loop-v g l = l.rows ≡ map (numbers_at (g.A.Adjacency.of_graph l.adjacency) l.root) (range_with_len 0 l.v)
