use Rattle.pop_edge.proofs.NumbersLemmas.{read_more}
use Rattle.pop_edge.proofs.numbers.value_of.Goals as goal

pub loop-b-preserved : goal.loop-b-preserved
loop-b-preserved c =
    rw c.from.ensures
    (read_more c.args.word.now c.loop-b.b-index c.loop-b.value c.loop-b.invariant c.loop-b-test.true c.if-b-lt48.false c.if-b-gt57.false)
