use Rattle.graph_read.proofs.PickedEdges.{PicksEdges}
use Rattle.graph_read.proofs.picks.pick_edges.Given as goal

-- the ends of the edges so far came
abbrev pub invariant-loop-i : goal.invariant-loop-i
invariant-loop-i l = PicksEdges l.graph l.i l.fn.left l.left l.picked
