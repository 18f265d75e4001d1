use Rattle.std.proofs.Common.{◌≡◌, length, map}
use Rattle.std.specs.List.{range_with_len}
use Rattle.graph_read.specs.Incidence.{edges_at}
use Rattle.graph_read.proofs.other_ends.OtherEnds.degrees.Given as goal

-- those of the vertices before here
abbrev pub invariant-loop-v : goal.invariant-loop-v
invariant-loop-v l = l.degrees.items ≡ map (λ w. length (edges_at l.self w)) (range_with_len 1 l.v)
