use Rattle.array_calls.specs.Rows.{PutsRow}
use Rattle.array_calls.specs.Trees.{used}
use Rattle.array_calls.proofs.rows.put_used.Given as goal

-- the row of the vertices before here is there
abbrev pub invariant-loop-k : goal.invariant-loop-k
invariant-loop-k l = PutsRow l.at l.k (used l.root l.cursors) l.fn.numbers l.numbers
