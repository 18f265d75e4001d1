use Rattle.std.proofs.Common.{sym, subst}
use Rattle.pop_stacks.specs.KeptRows.{rows_of}
use Rattle.pop_stacks.specs.Rows.{AreShort}
use Rattle.pop_stacks.proofs.WeightsBySums.{short_running}
use Rattle.pop_stacks.proofs.rows.Rows.into_sums.Goals as goal

pub invariant_of-result : goal.invariant_of-result
invariant_of-result c =
    subst AreShort (sym c.in_default.ensures.sums) (short_running (rows_of c.self.inside.kept) c.self.invariant)
