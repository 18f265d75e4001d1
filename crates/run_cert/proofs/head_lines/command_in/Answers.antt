use Rattle.run_cert.proofs.HeadLinesLemmas.{command_said}
use Rattle.run_cert.proofs.head_lines.command_in.Goals as goal

pub returns : goal.returns
returns c =
    command_said c.args.line.now c.in-Some.word.now c.paused_named.result c.in-Some.ensures c.paused_named.ensures
