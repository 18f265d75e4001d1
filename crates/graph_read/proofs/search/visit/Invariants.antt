use Rattle.graph_read.proofs.VisitedEdges.{Visits}
use Rattle.graph_read.proofs.search.visit.Given as goal

-- the other ends of the edges so far are met
abbrev pub invariant-loop-w : goal.invariant-loop-w
invariant-loop-w l = Visits l.ends l.vertex l.w-index l.fn.search l.search
