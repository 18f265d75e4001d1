use Rattle.array_calls.specs.Rows.{PutsRow}
use Rattle.array_calls.specs.Values.{number_at}
use Rattle.array_calls.proofs.row_end.put_kept.Given as goal

-- the row of the variables before here is there
abbrev pub invariant-loop-k : goal.invariant-loop-k
invariant-loop-k l = PutsRow l.at l.k (number_at l.values) l.fn.numbers l.numbers
