use Rattle.std.proofs.Common.{◌≡◌, drop}
use Rattle.dimacs_read.specs.Reading.{empty_from}
use Rattle.dimacs_read.proofs.finish.first_empty_clause.Given as goal

abbrev pub invariant-loop-end : goal.invariant-loop-end
invariant-loop-end l =
    record {
      number : l.number ≡ l.end-index;
      rest : empty_from l.number l.at (drop l.end-index l.ends) ≡ empty_from 0 0 l.ends;
    }
