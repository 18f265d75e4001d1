use Rattle.pop_rows.proofs.Puts.{CountPuts}
use Rattle.graph_read.specs.Incidence.{put_number}
use Rattle.graph_read.proofs.IncidenceRows.{first_ends}
use Rattle.graph_read.proofs.end_rows.count_ends.Given as goal

-- the ends of the edges so far are counted
abbrev pub invariant-loop-i : goal.invariant-loop-i
invariant-loop-i l = CountPuts l.graph.vertices (first_ends put_number l.graph l.i) l.degrees
