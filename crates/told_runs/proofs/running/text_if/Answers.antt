use Rattle.std.proofs.Common.{sym}
use Rattle.std.proofs.lemmas.List.{append-nil}
use Rattle.told_runs.proofs.running.text_if.Goals as goal

pub returns-then-not-printed : goal.returns-then-not-printed
returns-then-not-printed c = rw c.if-not-printed.true (sym (append-nil c.args.text.items))

pub returns : goal.returns
returns c = rw c.if-not-printed.false c.print_behind.ensures
