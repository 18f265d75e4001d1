use Rattle.dimacs_read.proofs.FinishedText.{bounds_of, finish_of}
use Rattle.dimacs_read.proofs.reader.Reader.finish.Goals as goal

pub returns-in-Some : goal.returns-in-Some
returns-in-Some c = λ lines knows. finish_of c.args.self c.in-Some.header c.args.line lines c.finish_clauses.result
    knows c.in-Some.is c.finish_clauses.ensures

pub finish_clauses-requires : goal.finish_clauses-requires
finish_clauses-requires c = bounds_of c.args.self c.in-Some.header c.requires c.in-Some.is
