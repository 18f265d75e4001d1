use Rattle.worker_hints.proofs.HintMoves.{takes, pops}
use Rattle.worker_hints.proofs.hints.next.Goals as goal

pub pop_as-last-requires-clause-fifo : goal.pop_as-last-requires-clause-fifo
pop_as-last-requires-clause-fifo g c = λ _. takes g.W.Range.units _ tt 1

pub pop_as-last-requires-clause-lifo : goal.pop_as-last-requires-clause-lifo
pop_as-last-requires-clause-lifo g c = λ _. pops g.W.Range.units _ tt
