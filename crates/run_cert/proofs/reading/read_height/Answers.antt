use Rattle.std.proofs.Common.{sym, subst}
use Rattle.run_cert.specs.Heads.{height_line, height_lines, IsHeight, MayBeHeight}
use Rattle.run_cert.specs.HeadLines.{BeginsNone}
use Rattle.run_cert.proofs.BadLines.{no_line}
use Rattle.run_cert.proofs.reading.read_height.Goals as goal

pub returns-in_default : goal.returns-in_default
returns-in_default c =
    subst (λ s. BeginsNone (MayBeHeight s) (height_lines s) c.args.bytes.now) (sym c.in-Key.is)
    (no_line IsHeight height_line c.args.bytes.now c.cut_line.result.0.now c.cut_line.result.1.now
    c.cut_line.ensures.line c.in_default.ensures)
