use Rattle.std.proofs.Common.{◌+◌, ap, arith}
use Rattle.pop_edge.specs.Judging.{told_lines}
use Rattle.pop_edge.proofs.AnsweredLines.{end_of, line_early, line_known, line_no_fault, next_at_fault, next_early, passed_on, stopped}
use Rattle.pop_edge.proofs.JudgedLines.{whole_text}
use Rattle.pop_edge.proofs.line_reader.read_lines.Goals as goal

pub returns-in_err-next-clause-early : goal.returns-in_err-next-clause-early
returns-in_err-next-clause-early g c =
    let j = g.R.LineReader.judgement in
    let i = c.reading.invariant in
    stopped j (g.S.Source.left c.args.source.now) c.from_residual-in_err-next.result _
    (passed_on c.from_residual-in_err-next.result _ c.from_residual-in_err-next.ensures.1)
    (λ text is. next_early j (g.R.LineReader.knows c.reading.reader) c.reading.lines c.next.new.self _ _
    (g.S.Source.left c.next.new.source) text c.in_err-next.field-0.0
    (c.requires.clean c.reading.reader) i.reading i.kept c.in_err-next.ensures.next is)

pub returns-in_err-next-clause-no_bad_line : goal.returns-in_err-next-clause-no_bad_line
returns-in_err-next-clause-no_bad_line g c = λ fault.
    let i = c.reading.invariant in
    next_at_fault g.R.LineReader.judgement (g.R.LineReader.knows c.reading.reader) c.reading.lines c.next.new.self _ _
    (g.S.Source.left c.next.new.source) c.in_err-next.field-0.0 c.from_residual-in_err-next.result
    (c.requires.clean c.reading.reader) i.reading i.kept c.in_err-next.ensures.next
    (passed_on c.from_residual-in_err-next.result _ c.from_residual-in_err-next.ensures.1) fault

pub reading-preserved : goal.reading-preserved
reading-preserved g c =
    let i = c.reading.invariant in
    let e = c.in_ok-next.ensures in
    record {
      sound = c.in_ok-take_line.ensures.sound;
      reading = line_known g.R.LineReader.judgement (g.R.LineReader.knows c.reading.reader)
          (g.R.LineReader.knows c.take_line.new.self) c.reading.lines c.next.new.self _ _
          (g.S.Source.left c.next.new.source) c.line.result.now c.number.result c.in_ok-next.field-0 i.reading i.kept e.next
          c.in-Line.is e.goes_on c.line.ensures c.number.ensures c.in_ok-take_line.ensures.line;
      kept = e.goes_on;
      at_end = e.at_end i.at_end;
      faults = omega (arith, i.faults, e.later);
      bound = e.bound;
    }

pub returns-in_err-take_line-clause-early : goal.returns-in_err-take_line-clause-early
returns-in_err-take_line-clause-early g c =
    let j = g.R.LineReader.judgement in
    let i = c.reading.invariant in
    let e = c.in_ok-next.ensures in
    stopped j (g.S.Source.left c.args.source.now) c.from_residual-in_err-take_line.result _
    (passed_on c.from_residual-in_err-take_line.result _ c.from_residual-in_err-take_line.ensures.1)
    (λ text is. line_early j (g.R.LineReader.knows c.reading.reader) c.reading.lines c.next.new.self _ _
    (g.S.Source.left c.next.new.source) c.line.result.now c.number.result c.in_ok-next.field-0 text
    c.in_err-take_line.field-0.0 c.requires.order i.reading i.kept e.next c.in-Line.is c.line.ensures
    c.number.ensures c.in_err-take_line.ensures.line (e.at_end i.at_end) is)

pub returns-in_err-take_line-clause-fault : goal.returns-in_err-take_line-clause-fault
returns-in_err-take_line-clause-fault g c = λ fault.
    absurd (line_no_fault g.R.LineReader.judgement (g.R.LineReader.knows c.reading.reader) c.reading.lines _ _
    c.line.result.now c.number.result c.in_err-take_line.field-0.0 c.from_residual-in_err-take_line.result
    c.requires.order c.reading.invariant.reading c.in_err-take_line.ensures.line
    (passed_on c.from_residual-in_err-take_line.result _ c.from_residual-in_err-take_line.ensures.1) fault)

pub returns-in_err-take_line-clause-no_bad_line : goal.returns-in_err-take_line-clause-no_bad_line
returns-in_err-take_line-clause-no_bad_line g c = λ fault.
    absurd (line_no_fault g.R.LineReader.judgement (g.R.LineReader.knows c.reading.reader) c.reading.lines _ _
    c.line.result.now c.number.result c.in_err-take_line.field-0.0 c.from_residual-in_err-take_line.result
    c.requires.order c.reading.invariant.reading c.in_err-take_line.ensures.line
    (passed_on c.from_residual-in_err-take_line.result _ c.from_residual-in_err-take_line.ensures.1) fault)

pub returns-clause-all : goal.returns-clause-all
returns-clause-all g c =
    let j = g.R.LineReader.judgement in
    let i = c.reading.invariant in
    let e = c.in_ok-next.ensures in
    let next = end_of c.reading.lines c.next.new.self (g.S.Source.left c.reading.source)
    (g.S.Source.left c.next.new.source) c.in_ok-next.field-0 i.kept e.next c.in_default.not-Line in
    record {
      lines = told_lines j i.reading.lines;
      knows = i.reading.knows;
      whole = λ text is. whole_text j (g.R.LineReader.knows c.reading.reader) c.reading.lines c.next.new.self _ _ _
          (c.number-2.result + 1) text (c.requires.clean c.reading.reader) i.reading next
          (ap (λ n. n + 1) c.number-2.ensures) (e.at_end i.at_end next.answers.ended) is;
    }
