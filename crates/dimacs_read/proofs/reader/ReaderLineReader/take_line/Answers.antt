use Rattle.dimacs_read.proofs.TakenLines.{takes_line}
use Rattle.dimacs_read.proofs.reader.ReaderLineReader.take_line.Goals as goal

pub returns-in-Some-header-clause-line : goal.returns-in-Some-header-clause-line
returns-in-Some-header-clause-line c = λ lines knows.
    takes_line c.args.self.now c.take_words.new.self lines c.in-Some-header.header c.args.number c.in-Some.first
    c.args.line.now c.take_words.result knows c.in-Some-header.is c.take_words.ensures.same
    c.in-Some.ensures c.if-first-eq-COMMENT.false c.take_words.ensures.words
