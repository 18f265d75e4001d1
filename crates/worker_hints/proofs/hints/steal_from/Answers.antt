use Rattle.worker_hints.proofs.HintMoves.{takes}
use Rattle.worker_hints.proofs.hints.steal_from.Goals as goal

pub steal_as-requires-clause-takes : goal.steal_as-requires-clause-takes
steal_as-requires-clause-takes g c = takes g.W.Range.units _ tt 1
