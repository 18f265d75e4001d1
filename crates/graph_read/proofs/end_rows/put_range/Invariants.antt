use Rattle.graph_read.specs.Incidence.{put_of}
use Rattle.graph_read.proofs.IncidenceRows.{first_ends}
use Rattle.graph_read.proofs.FilledRanges.{HoldsRange}
use Rattle.graph_read.proofs.end_rows.put_range.Given as goal

-- of the edges so far the ends in the range are pushed
abbrev pub invariant-loop-i : goal.invariant-loop-i
invariant-loop-i l = HoldsRange l.range l.fn.rows (first_ends (put_of l.put) l.graph l.i) l.rows
