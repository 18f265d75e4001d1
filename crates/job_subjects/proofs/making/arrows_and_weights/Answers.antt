use Rattle.std.proofs.Common.{subst}
use Rattle.graph_read.specs.Paths.{IsConnected, IsFirstCutOff}
use Rattle.job_subjects.proofs.making.arrows_and_weights.Goals as goal

pub returns-clause-connected : goal.returns-clause-connected
returns-clause-connected c =
    subst (λ g. IsConnected g c.args.root) c.in_ok-ends.ensures
    (subst (IsFirstCutOff c.in_ok-ends.ends c.args.root) c.in_default.is c.in_ok-vertex.ensures)
