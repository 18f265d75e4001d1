use Rattle.dimacs_read.proofs.TakenWords.{goes_on}
use Rattle.dimacs_read.proofs.clauses.Clauses.take_words.Goals as goal

pub loop-word-preserved : goal.loop-word-preserved
loop-word-preserved c =
    let e = c.in_ok-take_word.ensures in
    record {
      few = e.few;
      room = e.room;
      goes = λ before holds. goes_on c.loop-word.self c.take_word.new.self c.args.variables c.args.line c.args.bytes.now
          c.loop-word.rest.now c.in-Some.word.now c.in-Some.behind.now before
          (c.loop-word.invariant.goes before holds) c.in-Some.ensures.0 e.taken.0 e.taken.1;
    }
