use Rattle.std.proofs.Common.{sym, subst}
use Rattle.graph_read.specs.Paths.{IsConnected}
use Rattle.cycle_popping.proofs.heads.arrows.Goals as goal

pub arrows_of-requires-clause-joined : goal.arrows_of-requires-clause-joined
arrows_of-requires-clause-joined c =
    subst (λ g. IsConnected g c.args.root) (sym c.in_ok-ends.ensures) c.requires.joined
