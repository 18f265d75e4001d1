use Rattle.pop_rows.proofs.SumsInPlace.{AreSummed}
use Rattle.pop_rows.proofs.prefix_sums.accumulate.Given as goal

abbrev pub invariant-loop-x : goal.invariant-loop-x
invariant-loop-x l = AreSummed l.fn.row l.x-index l.row l.total
