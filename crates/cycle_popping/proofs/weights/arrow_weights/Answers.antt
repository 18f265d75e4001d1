use Rattle.std.proofs.Common.{sym, subst}
use Rattle.graph_read.specs.Paths.{IsConnected}
use Rattle.cycle_popping.proofs.weights.arrow_weights.Goals as goal

pub weights_of-requires-clause-joined : goal.weights_of-requires-clause-joined
weights_of-requires-clause-joined c =
    subst (λ g. IsConnected g c.args.root) (sym c.in_ok-ends.ensures) c.requires.joined
