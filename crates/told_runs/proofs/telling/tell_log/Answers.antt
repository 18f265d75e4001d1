use Rattle.std.proofs.Common.{arith}
use Rattle.told_runs.proofs.ToldLog.{log_told-nil, told_more, told_all}
use Rattle.told_runs.proofs.telling.tell_log.Goals as goal

pub loop-t-init : goal.loop-t-init
loop-t-init g c = log_told-nil _

pub loop-t-preserved : goal.loop-t-preserved
loop-t-preserved g c =
    told_more _ c.loop-t.watchers c.args.watchers.now c.tell_all.new.watchers c.args.log.now c.loop-t.t c.at.result.now
    c.at.ensures c.loop-t.invariant c.in_ok-tell_all.ensures

pub returns : goal.returns
returns g c =
    told_all _ c.loop-t.watchers c.args.watchers.now c.args.log.now c.loop-t.t
    (omega (arith, c.len-t-end.ensures, c.loop-t-test.false)) c.loop-t.invariant
