use Rattle.std.proofs.Common.{ℕ, List, ap₂, arith}
use Rattle.pop_watch.specs.Watching.{step}
use Rattle.pop_watch.specs.Telling.{Watcher}
use Rattle.told_runs.proofs.ChangedFront.{changed_none, changed_more, changed_all}
use Rattle.told_runs.proofs.telling.tell_all.Goals as goal

pub loop-i-init : goal.loop-i-init
loop-i-init g c = changed_none (λ (w : Watcher). (w.0, step w.0 w.1 c.args.popped.now)) _

pub loop-i-preserved : goal.loop-i-preserved
loop-i-preserved g c =
    changed_more _ (λ (w : Watcher). (w.0, step w.0 w.1 c.args.popped.now)) c.loop-i.watchers c.args.watchers.now
    c.loop-i.i c.index-watchers-i.result c.tell_one.new.watcher
    (omega (arith, c.loop-i-test.true, c.loop-i.auto.watchers)) c.loop-i.auto.watchers
    (ap₂ (λ (k : ℕ) (s : List ℕ). (k, s)) c.in_ok-tell_one.ensures.kind c.in_ok-tell_one.ensures.told)
    c.loop-i.invariant

pub returns : goal.returns
returns g c =
    changed_all _ (λ (w : Watcher). (w.0, step w.0 w.1 c.args.popped.now)) c.loop-i.watchers c.args.watchers.now
    c.loop-i.i c.loop-i-test.false c.loop-i.invariant
