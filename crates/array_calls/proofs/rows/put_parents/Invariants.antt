use Rattle.array_calls.specs.Rows.{PutsRow}
use Rattle.array_calls.specs.Trees.{parent}
use Rattle.array_calls.proofs.rows.put_parents.Given as goal

-- the row of the vertices before here is there
abbrev pub invariant-loop-k : goal.invariant-loop-k
invariant-loop-k l = PutsRow l.at l.k (parent l.ends l.root l.slots) l.fn.numbers l.numbers
