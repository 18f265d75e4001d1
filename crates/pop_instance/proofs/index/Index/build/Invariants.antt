use Rattle.pop_instance.proofs.FilledRows.{IsFilled}
use Rattle.pop_instance.proofs.index.Index.build.Given as goal

-- the events before here are in the rows
abbrev pub invariant-loop-place : goal.invariant-loop-place
invariant-loop-place l = IsFilled l.events l.place l.count l.rows
