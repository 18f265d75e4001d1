use Rattle.std.proofs.Common.{◌∷◌, sym, refl}
use Rattle.pop_edge.specs.Words.{words_of}
use Rattle.graph_read.proofs.TakenLines.{takes_edge}
use Rattle.graph_read.proofs.reader.ReaderLineReader.take_line.Goals as goal

pub returns-in-Some-graph-clause-line : goal.returns-in-Some-graph-clause-line
returns-in-Some-graph-clause-line c = λ lines knows.
    let behind = words_of c.in-Some.rest.now in
    rw c.in-Some.ensures.0
    (takes_edge c.args.self.now _ lines c.args.number (c.in-Some.word.now ∷ behind) c.in-Some-graph.graph
    c.add_line.new.graph c.add_line.result knows c.in-Some-graph.is (sym (c.if-passes_over.ensures behind))
    c.add_line.ensures refl)
