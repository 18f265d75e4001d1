use Rattle.std.proofs.Common.{◌≡◌, ◌≤◌, ◌+◌, ◌-◌, true, None}
use Rattle.std.specs.Io.KnownBytes.{IsAtEnd}
use Rattle.pop_edge.specs.Lines.{text_limit}
use Rattle.pop_edge.proofs.JudgedLines.{IsReading}
use Rattle.pop_edge.proofs.line_reader.read_lines.Given as goal

-- the lines given are those of the bytes taken, and none of them is refused
abbrev pub invariant-reading : goal.invariant-reading
invariant-reading g l =
    record {
      sound : g.R.LineReader.is_sound l.reader;
      reading : IsReading g.R.LineReader.judgement (g.R.LineReader.knows l.reader) (g.S.Source.left l.fn.source)
          (g.S.Source.left l.source) l.lines;
      kept : l.lines.kept ≡ None;
      at_end : l.lines.ended ≡ true → IsAtEnd (g.S.Source.left l.source);
      faults : g.S.Source.faults l.fn.source ≤ g.S.Source.faults l.source;
      bound : l.lines.number ≤ text_limit + 4096;
    }

abbrev pub decreases-reading : goal.decreases-reading
decreases-reading g l = text_limit + 4097 - l.lines.number
