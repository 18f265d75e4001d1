use Rattle.array_calls.specs.Rows.{PutsRow}
use Rattle.array_calls.specs.Trees.{edge_number}
use Rattle.array_calls.proofs.rows.put_edges.Given as goal

-- the row of the vertices before here is there
abbrev pub invariant-loop-k : goal.invariant-loop-k
invariant-loop-k l = PutsRow l.at l.k (edge_number l.incidence l.root l.slots) l.fn.numbers l.numbers
