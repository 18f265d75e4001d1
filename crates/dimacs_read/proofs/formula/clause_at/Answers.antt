use Rattle.std.proofs.Common.{ap, sym, ◌∙◌, get_or, slice_range}
use Rattle.dimacs_read.proofs.FlatLemmas.{part_at}
use Rattle.dimacs_read.proofs.formula.clause_at.Goals as goal

pub returns-clause-part : goal.returns-clause-part
returns-clause-part c =
    ap (λ k. slice_range c.args.literals.now k (get_or c.args.ends.now c.args.i 0)) c.start_of-start.ensures
    ∙ sym (part_at c.args.literals.now 0 c.args.ends.now c.args.i c.requires.within)
