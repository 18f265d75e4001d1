use Rattle.std.proofs.Common.{true, sym, subst}
use Rattle.run_cert.specs.Heads.{root_line, root_lines, MayBeRoot}
use Rattle.run_cert.specs.HeadLines.{BeginsNone}
use Rattle.run_cert.proofs.BadLines.{no_line}
use Rattle.run_cert.proofs.reading.read_root.Goals as goal

pub returns-in_default : goal.returns-in_default
returns-in_default c =
    subst (λ b. BeginsNone (MayBeRoot b) (root_lines b) c.args.bytes.now) (sym c.if-not-rooted.false)
    (no_line (MayBeRoot true) root_line c.args.bytes.now c.cut_line.result.0.now c.cut_line.result.1.now
    c.cut_line.ensures.line c.in_default.ensures)
