use Rattle.std.proofs.Common.{◌≡◌, map}
use Rattle.std.specs.List.{range_with_len}
use Rattle.graph_read.specs.Ends.{edge_in}
use Rattle.graph_read.proofs.ends.graph_of_ends.Given as goal

-- the edges before here are there
abbrev pub invariant-loop-i : goal.invariant-loop-i
invariant-loop-i l =
    l.graph ≡ record { vertices = l.vertices; edges = map (edge_in l.ends l.weights) (range_with_len 0 l.i) }
