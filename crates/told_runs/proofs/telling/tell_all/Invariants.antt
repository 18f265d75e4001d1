use Rattle.std.proofs.Common.{◌≡◌, map}
use Rattle.pop_watch.specs.Watching.{step}
use Rattle.pop_watch.specs.Telling.{Watcher}
use Rattle.told_runs.proofs.ChangedFront.{changed_front}
use Rattle.told_runs.proofs.telling.tell_all.Given as goal

-- the watchers up to here were told the record
abbrev pub invariant-loop-i : goal.invariant-loop-i
invariant-loop-i g l =
    map {B = Watcher} (λ b. let w = goal.Watch-dyn g (b.vtable, b.value) in (w.kind b.value, w.state b.value))
    l.watchers
    ≡ changed_front (λ w. (w.0, step w.0 w.1 l.popped)) l.i
    (map {B = Watcher} (λ b. let w = goal.Watch-dyn g (b.vtable, b.value) in (w.kind b.value, w.state b.value))
    l.fn.watchers)
