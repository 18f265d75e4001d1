use Rattle.pop_edge.proofs.NumbersLemmas.{HasRead}
use Rattle.pop_edge.proofs.numbers.value_of.Given as goal

abbrev pub invariant-loop-b : goal.invariant-loop-b
invariant-loop-b l = HasRead l.word l.b-index l.value
