use Rattle.std.proofs.Common.{◌*◌}
use Rattle.graph_read.specs.Incidence.{put_of}
use Rattle.graph_read.proofs.FilledRanges.{HoldsBelow}
use Rattle.graph_read.proofs.end_rows.put_rows.Given as goal

-- the rows of the ranges so far are filled
abbrev pub invariant-loop-k : goal.invariant-loop-k
invariant-loop-k l = HoldsBelow (put_of l.put) l.graph (l.k * l.size) l.rows
