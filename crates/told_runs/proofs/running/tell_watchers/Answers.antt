use Rattle.std.proofs.Common.{sym, ◌∙◌}
use Rattle.told_runs.proofs.ToldRuns.{untold}
use Rattle.told_runs.proofs.running.tell_watchers.Goals as goal

-- no report is asked for
pub returns-then-not-tells : goal.returns-then-not-tells
returns-then-not-tells g c =
    c.new.ensures.items ∙ sym (untold c.args.asked (sym c.tells.ensures ∙ c.if-not-tells.true) _)
