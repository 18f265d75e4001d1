use Rattle.std.proofs.Common.{List, Option, length, ◌≤◌, ◌^◌}
use Rattle.dimacs_read.specs.declared.token.Token.{Token}
use Rattle.dimacs_read.specs.Reading.{Holds, Goes}
use Rattle.dimacs_read.proofs.clauses.Clauses.take_words.Given as goal

abbrev pub invariant-loop-word : goal.invariant-loop-word
invariant-loop-word l =
    record {
      few : length l.self.ends.items ≤ 2 ^ 22;
      room : length l.self.literals.items ≤ 2 ^ 25;
      goes : (before : List (Option Token)) → Holds l.fn.self before
          → Goes l.self l.variables l.line l.bytes l.rest before;
    }

abbrev pub decreases-loop-word : goal.decreases-loop-word
decreases-loop-word l = length l.rest
