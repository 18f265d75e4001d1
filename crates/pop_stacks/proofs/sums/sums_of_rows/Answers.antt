use Rattle.std.proofs.Common.{◌∙◌, ap, sym, subst, map}
use Rattle.pop_stacks.specs.Draws.{differences, AreRunning}
use Rattle.pop_stacks.proofs.WeightsBySums.{are_running, weights_again}
use Rattle.pop_stacks.proofs.sums.sums_of_rows.Goals as goal

pub invariant_of-result : goal.invariant_of-result
invariant_of-result c = subst AreRunning (sym c.in_ok-sums.ensures.made) (are_running c.args.rows c.requires)

pub returns-clause-made : goal.returns-clause-made
returns-clause-made c = ap (map (differences 0)) c.in_ok-sums.ensures.made ∙ weights_again c.args.rows
