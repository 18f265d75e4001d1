use Rattle.std.proofs.Common.{◌≡◌, ◌≤◌, take, count_by}
use Rattle.dimacs_read.specs.Literals.{ends_clause}
use Rattle.dimacs_read.proofs.literals.count_ends.Given as goal

-- the ends up to here
abbrev pub invariant-loop-literal : goal.invariant-loop-literal
invariant-loop-literal l = record {
  count : l.ends ≡ count_by ends_clause (take l.literal-index l.literals);
  bound : l.ends ≤ l.literal-index;
}
