use Rattle.std.proofs.Common.{ap, arith, length}
use Rattle.dimacs_read.specs.Cnf.{Cnf}
use Rattle.dimacs_read.proofs.FlatLemmas.{length-parts}
use Rattle.dimacs_read.proofs.formula.Formula.clauses.Goals as goal

pub returns-clause-count : goal.returns-clause-count
returns-clause-count c =
    let size = ap (λ (f : Cnf). length f.clauses) c.self.view_is in
    omega (arith, size, length-parts c.self.inside.literals.items 0 c.self.inside.ends.items, c.len.ensures)
