use Rattle.dimacs_read.proofs.EventsOfClauses.{AreRowsOf}
use Rattle.dimacs_read.proofs.formula.Formula.events.Given as goal

-- the rows are those of the clauses so far
abbrev pub invariant-loop-i : goal.invariant-loop-i
invariant-loop-i l = AreRowsOf l.self.clauses l.i l.rows.items
