use Rattle.std.proofs.Common.{ap, arith, length}
use Rattle.dimacs_read.specs.Cnf.{Cnf}
use Rattle.dimacs_read.proofs.FlatLemmas.{length-parts}
use Rattle.dimacs_read.proofs.formula.Formula.clause.Goals as goal

pub clause_at-requires-clause-within : goal.clause_at-requires-clause-within
clause_at-requires-clause-within c =
    let size = ap (λ (f : Cnf). length f.clauses) c.self.view_is in
    omega (
      arith,
      size,
      length-parts c.self.inside.literals.items 0 c.self.inside.ends.items,
      c.requires,
      ap length c.deref-2.ensures.value,
    )
